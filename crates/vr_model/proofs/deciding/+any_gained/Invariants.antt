use Rattle.std.proofs.Common.{length}
use Rattle.vr_model.proofs.deciding.+any_gained.Given as goal

abbrev pub decreases-any_gained : goal.decreases-any_gained
decreases-any_gained l = length l.all.now
