use Rattle.std.proofs.Common.{ap, subst}
use Rattle.vr_space.specs.Room.{Lengths}
use Rattle.vr_space.specs.Keyed.{Keyed, KeepsRoom}
use Rattle.vr_split.specs.Switching.{KeepsPart}
use Rattle.vr_split.specs.Splits.{Splits}
use Rattle.vr_split.proofs.split.CiSplit.run.Goals as goal

pub returns-clause-keeps : goal.returns-clause-keeps
returns-clause-keeps g c told =
    let a = g.B.Blocks.seen c.args.blocks.now in
    let b = g.B.Blocks.seen c.do_stage.new.blocks in
    subst (λ (part : Keyed). (kept : Lengths) → KeepsRoom part kept a → KeepsPart part kept a b)
    (ap (λ (splits : Splits). splits.part) c.self.view_is) (c.do_stage.ensures.keeps told)
