use Rattle.std.proofs.Common.{length}
use Rattle.vr_model.proofs.effects.+with_locks.Given as goal

abbrev pub decreases-with_locks : goal.decreases-with_locks
decreases-with_locks l = length l.asked.now
