use Rattle.vr_history.proofs.Counting.{backed_out_same}
use Rattle.vr_history.proofs.laws.backed_out_changes_nothing.Goals as goal

pub returns : goal.returns
returns c = backed_out_same
