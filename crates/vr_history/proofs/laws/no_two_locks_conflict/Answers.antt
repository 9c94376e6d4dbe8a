use Rattle.vr_history.specs.State.{opening_state}
use Rattle.vr_history.proofs.LockRuns.{none_conflict}
use Rattle.vr_history.proofs.laws.no_two_locks_conflict.Goals as goal

pub returns : goal.returns
returns c = λ geometry contents owned entries steps. none_conflict geometry
    (opening_state contents owned) entries steps tt
