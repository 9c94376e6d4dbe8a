use Rattle.std.proofs.Common.{length}
use Rattle.vr_model_state.proofs.copies.+copy_of_numbers.Given as goal

abbrev pub decreases-copy_of_numbers : goal.decreases-copy_of_numbers
decreases-copy_of_numbers l = length l.from.now
