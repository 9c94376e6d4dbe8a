use Rattle.std.proofs.Common.{length}
use Rattle.vr_model_state.proofs.look.+areas_of.Given as goal

abbrev pub decreases-areas_of : goal.decreases-areas_of
decreases-areas_of l = length l.owned.now
