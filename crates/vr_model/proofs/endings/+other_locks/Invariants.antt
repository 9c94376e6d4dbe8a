use Rattle.std.proofs.Common.{length}
use Rattle.vr_model.proofs.endings.+other_locks.Given as goal

abbrev pub decreases-other_locks : goal.decreases-other_locks
decreases-other_locks l = length l.held.now
