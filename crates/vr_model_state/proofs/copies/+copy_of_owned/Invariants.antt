use Rattle.std.proofs.Common.{length}
use Rattle.vr_model_state.proofs.copies.+copy_of_owned.Given as goal

abbrev pub decreases-copy_of_owned : goal.decreases-copy_of_owned
decreases-copy_of_owned l = length l.from.now
