use Rattle.vr_locks.proofs.CallerLemmas.{free-name, free-names}
use Rattle.vr_locks.proofs.laws.free_is_granted.Goals as goal

pub returns-clause-name : goal.returns-clause-name
returns-clause-name c = free-name

pub returns-clause-names : goal.returns-clause-names
returns-clause-names c = free-names
