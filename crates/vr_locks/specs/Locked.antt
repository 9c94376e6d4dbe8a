-- What a request that is granted, and the end of a unit of recovery, make of the locks, which stand
-- in the order in which they were taken. The rules are this project's own.
use Rattle.std.specs.Prelude.{Bool, not, ◌&&◌, cond, List, [], ◌∷◌, ◌++◌, map}
use Rattle.std.specs.List.{filter, fold, list_any}
use Rattle.vr_types.specs.declared.lock_name.LockName.{LockName}
use Rattle.vr_types.specs.declared.unit.Mode.{Mode}
use Rattle.vr_types.specs.declared.unit.Mode.TheVariants.{Shared, Exclusive}
use Rattle.vr_types.specs.declared.unit.Unit as units
use Rattle.vr_types.specs.LockName.{lock_name_eq}
use Rattle.vr_types.specs.Locks.{Lock, same_unit}

-- the lock is a unit's own on a name
abbrev pub is_own : units.Unit → LockName → Lock → Bool
is_own unit name lock = lock_name_eq name lock.name && same_unit unit lock.unit

-- a shared lock becomes exclusive where the unit asks for that
abbrev pub raise : Mode → Lock → Lock
raise Shared lock = lock
raise Exclusive lock = record lock { mode = Exclusive }

-- the locks once a unit has a name in a mode: its own lock on the name is raised in its place, or a
-- new one comes last
abbrev pub with_lock : units.Unit → Mode → List Lock → LockName → List Lock
with_lock unit mode locks name =
    cond (list_any (is_own unit name) locks)
    (map (λ lock. cond (is_own unit name lock) (raise mode lock) lock) locks)
    (locks ++ (record { name = name; unit = unit; mode = mode }) ∷ [])

-- the locks once a unit has each name of a request
abbrev pub with_locks : units.Unit → Mode → List Lock → List LockName → List Lock
with_locks unit mode locks names = fold (with_lock unit mode) locks names

-- the locks of the other units
abbrev pub without_unit : units.Unit → List Lock → List Lock
without_unit unit locks = filter (λ lock. not (same_unit unit lock.unit)) locks
