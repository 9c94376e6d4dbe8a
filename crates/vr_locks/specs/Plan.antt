-- What a request does to the maps, name by name. The form is this project's own.
use Rattle.std.specs.Prelude.{◌≡◌, ◌<◌, ◌+◌, ℕ, true, false, nat_eq, List, length, Some}
use Rattle.std.specs.Prelude.{slice_index_or}
use Rattle.std.specs.List.{list_any}
use Rattle.vr_types.specs.declared.lock_name.LockName.{LockName}
use Rattle.vr_types.specs.declared.unit.Mode.{Mode}
use Rattle.vr_types.specs.declared.unit.Unit as units
use Rattle.vr_types.specs.LockName.{lock_name_eq}
use Rattle.vr_types.specs.Locks.{Lock, conflicts, same_unit}
use Rattle.vr_locks.specs.declared.maps.LockMaps.{LockMaps}
use Rattle.vr_locks.specs.declared.planning.Step.{Step}
use Rattle.vr_locks.specs.declared.planning.Step.TheVariants.{Raise, Take}
use Rattle.vr_locks.specs.Maps.{IsConsistent, lock_at, locks_in, of_name, of_unit}
use Rattle.vr_locks.specs.Locked.{is_own, with_lock}

-- a number is filed under one name and one unit
pub record IsFiledFor (maps : LockMaps) (unit : units.Unit) (name : LockName) (n : ℕ) : Type 0 where
  pub name_alone : (q : LockName) → list_any (nat_eq n) (of_name maps q) ≡ lock_name_eq name q
  pub unit_alone : (q : units.Unit) → list_any (nat_eq n) (of_unit maps q) ≡ same_unit unit q

-- the number is that of the unit's own lock on the name
abbrev pub IsOwnAt : LockMaps → units.Unit → LockName → ℕ → Type 0
IsOwnAt maps unit name n =
    (lock : Lock) × (lock_at maps n ≡ Some lock) × (is_own unit name lock ≡ true)

-- what is to be done for a name that may take a number
abbrev pub IsStepFor : LockMaps → units.Unit → LockName → ℕ → Step → Type 0
IsStepFor maps unit name number (Raise own) = IsOwnAt maps unit name own
IsStepFor maps unit name number (Take n taken) =
    (n ≡ number) × (taken ≡ name) × IsFiledFor maps unit name n

-- what is to be done for each name of a request, which may take the numbers from `first` on
pub record AreStepsFor (maps : LockMaps) (unit : units.Unit) (names : List LockName) (first : ℕ)
    (steps : List Step) : Type 0 where
  pub long : length steps ≡ length names
  pub each : (m : ℕ) (name : LockName) (step : Step) → m < length names
      → IsStepFor maps unit (slice_index_or names m name) (first + m) (slice_index_or steps m step)

-- no lock stands in the way of a name
abbrev pub NoneAgainst : LockMaps → units.Unit → Mode → LockName → Type 0
NoneAgainst maps unit mode name =
    (n : ℕ) (lock : Lock) → lock_at maps n ≡ Some lock → conflicts unit mode name lock ≡ false

-- A name of a request was granted: `new` was made of `old`.
pub record Grants (unit : units.Unit) (mode : Mode) (name : LockName)
    (old new : LockMaps) : Type 0 where
  pub locks : locks_in new ≡ with_lock unit mode (locks_in old) name
  pub kept : IsConsistent new new.next
  pub next : new.next ≡ old.next
  -- the unit keeps what it has
  pub owned : (other : LockName) (n : ℕ) → IsOwnAt old unit other n → IsOwnAt new unit other n
  -- and nothing new stands in its way
  pub free : (other : LockName) → NoneAgainst old unit mode other → NoneAgainst new unit mode other
