use Rattle.vr_history.proofs.Counting.{settled_everywhere}
use Rattle.vr_history.proofs.laws.committed_is_settled.Goals as goal

pub returns : goal.returns
returns c = settled_everywhere
