-- What the maps of the table hold. The form is this project's own.
use Rattle.std.specs.Prelude.{◌≡◌, ◌≤◌, ℕ, List, Option, nat_eq}
use Rattle.std.specs.HashMap.{get}
use Rattle.vr_types.specs.declared.lock_name.LockName.{LockName}
use Rattle.vr_types.specs.declared.unit.Unit as units
use Rattle.vr_types.specs.Locks.{Lock, same_unit}
use Rattle.vr_types.specs.LockName.{lock_name_eq}
use Rattle.vr_locks.specs.declared.maps.LockMaps.{LockMaps}
use Rattle.vr_locks.specs.Filed.{AreUsed, numbers_in}
use Rattle.vr_locks.specs.Listed.{listed, IsFiled, AreSound, AreBelow}

-- the lock with a number
abbrev pub lock_at : LockMaps → ℕ → Option Lock
lock_at maps n = get nat_eq maps.locks n

-- the numbers filed under a name
abbrev pub of_name : LockMaps → LockName → List ℕ
of_name maps name = numbers_in (get lock_name_eq maps.names name)

-- the numbers filed under a unit
abbrev pub of_unit : LockMaps → units.Unit → List ℕ
of_unit maps unit = numbers_in (get same_unit maps.units unit)

-- the locks, in the order in which they were taken
abbrev pub locks_in : LockMaps → List Lock
locks_in maps = listed (lock_at maps) maps.next

-- Every lock is filed under its name and its unit, no number from `bound` on is in use, and the
-- locks go together. A name or a unit has an entry only while a number is filed under it.
pub record IsConsistent (maps : LockMaps) (bound : ℕ) : Type 0 where
  pub names : IsFiled lock_name_eq (λ (lock : Lock). lock.name) (lock_at maps) bound (of_name maps)
  pub units : IsFiled same_unit (λ (lock : Lock). lock.unit) (lock_at maps) bound (of_unit maps)
  pub below : AreBelow (lock_at maps) bound
  pub sound : AreSound (lock_at maps)
  pub room : bound ≤ maps.next
  pub used_names : AreUsed (get lock_name_eq maps.names)
  pub used_units : AreUsed (get same_unit maps.units)

-- the numbers under names and under units are those of before
pub record KeepsFiled (old new : LockMaps) : Type 0 where
  pub names : new.names ≡ old.names
  pub units : new.units ≡ old.units
  pub next : new.next ≡ old.next
