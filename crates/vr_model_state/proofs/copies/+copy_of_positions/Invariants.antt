use Rattle.std.proofs.Common.{length}
use Rattle.vr_model_state.proofs.copies.+copy_of_positions.Given as goal

abbrev pub decreases-copy_of_positions : goal.decreases-copy_of_positions
decreases-copy_of_positions l = length l.from.now
