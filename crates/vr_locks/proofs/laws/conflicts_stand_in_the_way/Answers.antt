use Rattle.vr_locks.proofs.CallerLemmas.{conflict-from, conflicts-from}
use Rattle.vr_locks.proofs.laws.conflicts_stand_in_the_way.Goals as goal

pub returns : goal.returns
returns c =
    λ unit mode name lock. (conflict-from unit mode name lock, conflicts-from unit mode name lock)
