use Rattle.std.proofs.Common.{length}
use Rattle.vr_model_change.proofs.address.+lengths_taken.Given as goal

abbrev pub decreases-lengths_taken : goal.decreases-lengths_taken
decreases-lengths_taken l = length l.placed.now
