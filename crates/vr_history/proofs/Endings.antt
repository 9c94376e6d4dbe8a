-- What the end of a unit of recovery leaves.
use Rattle.std.proofs.Common.{◌≡◌, Bool, true, false, cond, not, List, [], ◌∷◌, zero, suc, filter}
use Rattle.std.proofs.Common.{refl, sym, subst, arith}
use Rattle.vr_types.specs.Locks.{Lock, same_unit}
use Rattle.vr_types.specs.declared.unit.Unit.{Unit as UnitOfRecovery}
use Rattle.vr_history.specs.Effects.{ends_unit, gives_back, is_other, is_utility_live, without_unit}
use Rattle.vr_history.specs.Laws.{HasNoLock}
use Rattle.vr_history.specs.State.{State}

no_locks : (unit : UnitOfRecovery) (locks : List Lock)
    → HasNoLock unit (filter (λ lock. is_other unit lock.unit) locks)
no_locks unit [] = λ k d below. absurd (omega (arith, below))
no_locks unit (lock ∷ locks) = by_test (same_unit unit lock.unit) refl (no_locks unit locks)
  where
    by_test : (test : Bool) → same_unit unit lock.unit ≡ test
        → HasNoLock unit (filter (λ lock. is_other unit lock.unit) locks)
        → HasNoLock unit
        (cond (not test) (lock ∷ filter (λ lock. is_other unit lock.unit) locks)
        (filter (λ lock. is_other unit lock.unit) locks))
    by_test true is rest = rest
    by_test false is rest = at_each
      where
        at_each : HasNoLock unit (lock ∷ filter (λ lock. is_other unit lock.unit) locks)
        at_each zero d below = is
        at_each (suc k) d below = rest k d (omega (arith, below))

-- what the catalog hasn't goes, and the locks stay
either_locks : (test : Bool) (one other : State) → other.locks ≡ one.locks
    → (cond test one other).locks ≡ one.locks
either_locks true one other same = refl
either_locks false one other same = same

pub gives_back_locks : (state : State) → (gives_back state).locks ≡ state.locks
gives_back_locks state = either_locks (is_utility_live state) state _ refl

pub ended_free : (unit : UnitOfRecovery) (state : State)
    → HasNoLock unit (ends_unit unit state).locks
ended_free unit state =
    subst (HasNoLock unit) (sym (gives_back_locks (without_unit unit state)))
    (no_locks unit state.locks)
