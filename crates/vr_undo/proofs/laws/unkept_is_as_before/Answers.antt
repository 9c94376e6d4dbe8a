use Rattle.vr_undo.proofs.Stating.{as-before}
use Rattle.vr_undo.proofs.laws.unkept_is_as_before.Goals as goal

pub returns : goal.returns
returns c = as-before
