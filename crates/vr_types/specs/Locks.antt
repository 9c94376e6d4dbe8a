-- Locks on records and on unique keys, as the lock manager of DFSMStvs has them (DFSMStvs Planning
-- and Operating Guide).
use Rattle.std.specs.Prelude.{◌≡◌, ◌≢◌, ◌⊎◌, Bool, true, false, not, ◌==◌, ◌&&◌, ◌||◌}
use Rattle.std.specs.Prelude.{List, [], ◌∷◌, Option, None}
use Rattle.std.specs.List.{find}
use Rattle.std.specs.Option.{option_or}
use Rattle.vr_types.specs.declared.lock_name.LockName.{LockName}
use Rattle.vr_types.specs.declared.unit.Mode.{Mode}
use Rattle.vr_types.specs.declared.unit.Mode.TheVariants.{Shared, Exclusive}
use Rattle.vr_types.specs.declared.unit.Unit as units
use Rattle.vr_types.specs.LockName.{lock_name_eq}

-- what a lock is on, who has it, and how
pub record Lock : Type 0 where
  pub name : LockName
  pub unit : units.Unit
  pub mode : Mode

-- Two locks conflict: they are on one name, of different units of recovery, and one of them is
-- exclusive.
pub record Conflict (one other : Lock) : Type 0 where
  pub name : one.name ≡ other.name
  pub units : one.unit ≢ other.unit
  pub exclusive : (one.mode ≡ Exclusive) ⊎ (other.mode ≡ Exclusive)

-- two units of recovery are one
abbrev pub same_unit : units.Unit → units.Unit → Bool
same_unit unit other = (unit.deck == other.deck) && (unit.number == other.number)

-- a mode that lets no other unit hold the name
abbrev pub is_exclusive : Mode → Bool
is_exclusive Shared = false
is_exclusive Exclusive = true

-- a lock stands in the way of a unit that asks for its name in a mode
unfoldable pub stands_against : units.Unit → Mode → Lock → Bool
stands_against unit mode lock =
    not (same_unit unit lock.unit) && (is_exclusive mode || is_exclusive lock.mode)

-- and of one that asks for a name
abbrev pub conflicts : units.Unit → Mode → LockName → Lock → Bool
conflicts unit mode name lock = lock_name_eq name lock.name && stands_against unit mode lock

-- the earliest lock that stands in the way of a name
abbrev pub first_conflict : List Lock → units.Unit → Mode → LockName → Option Lock
first_conflict locks unit mode name = find (conflicts unit mode name) locks

-- The lock that stands in the way of the first name of a request that has one. That the first name
-- is shown with its earliest lock is this project's own rule.
abbrev pub conflict_on : List Lock → units.Unit → Mode → List LockName → Option Lock
conflict_on locks unit mode [] = None
conflict_on locks unit mode (name ∷ names) =
    option_or (first_conflict locks unit mode name) (conflict_on locks unit mode names)
