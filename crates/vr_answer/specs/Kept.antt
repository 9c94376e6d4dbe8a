-- Before-images and locks: what a unit may bring back is under its exclusive lock (DFSMStvs
-- Planning and Operating Guide, record-level locking).
use Rattle.std.specs.Prelude.{◌≡◌, Bool, true, ◌&&◌, List}
use Rattle.std.specs.List.{AllByRecursion, list_any}
use Rattle.vr_types.specs.Locks.{Lock, is_exclusive}
use Rattle.vr_types.specs.declared.lock_name.LockName.{LockName}
use Rattle.vr_types.specs.declared.lock_name.LockName.TheVariants.{Record}
use Rattle.vr_types.specs.declared.unit.Unit.{Unit as UnitOfRecovery}
use Rattle.vr_history.specs.Names.{is_own}
use Rattle.vr_history.specs.State.{BeforeImage, State}

-- a lock that a unit has on a name exclusively
abbrev pub is_under : UnitOfRecovery → LockName → Lock → Bool
is_under unit name lock = is_own unit name lock && is_exclusive lock.mode

-- its unit has the place of a before-image exclusively
abbrev pub IsUnderLock : List Lock → BeforeImage → Type 0
IsUnderLock locks kept =
    list_any (is_under kept.unit (Record (record { 0 = kept.part }) kept.place)) locks ≡ true

abbrev pub AreUnderLocks : List Lock → List BeforeImage → Type 0
AreUnderLocks locks befores = AllByRecursion (IsUnderLock locks) befores

-- each before-image of a state is
abbrev pub KeptUnderLocks : State → Type 0
KeptUnderLocks state = AreUnderLocks state.locks state.befores
