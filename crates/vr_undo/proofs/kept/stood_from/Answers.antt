use Rattle.vr_undo.proofs.Ordered.{stood-bound}
use Rattle.vr_undo.proofs.kept.stood_from.Goals as goal

pub returns : goal.returns
returns c = stood-bound c.args.part.0 c.args.low.now c.args.past
