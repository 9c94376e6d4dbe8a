use Rattle.std.proofs.Common.{length}
use Rattle.vr_model_state.proofs.copies.+copy_of_logged.Given as goal

abbrev pub decreases-copy_of_logged : goal.decreases-copy_of_logged
decreases-copy_of_logged l = length l.from.now
