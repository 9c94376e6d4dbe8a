use Rattle.vr_history.proofs.Counting.{current_everywhere}
use Rattle.vr_history.proofs.laws.committed_is_current.Goals as goal

pub returns : goal.returns
returns c = current_everywhere
