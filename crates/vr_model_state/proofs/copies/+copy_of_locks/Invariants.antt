use Rattle.std.proofs.Common.{length}
use Rattle.vr_model_state.proofs.copies.+copy_of_locks.Given as goal

abbrev pub decreases-copy_of_locks : goal.decreases-copy_of_locks
decreases-copy_of_locks l = length l.from.now
