-- The locks that a request asks for (DFSMStvs Planning and Operating Guide, record-level locking):
-- on its record, and for a change on each key of a unique alternate index that it gives up or
-- takes. Which reads keep a lock is that guide's too; that a refused lock is answered at once is
-- this project's own rule.
use Rattle.std.specs.Prelude.{ℕ, Bool, true, false, cond, List, [], ◌∷◌, ◌++◌, Option, Some}
use Rattle.std.specs.Prelude.{None, ◌&&◌, find, filter, map, flat_map, option_to_list}
use Rattle.std.specs.Option.{option_map_or}
use Rattle.std.specs.List.{list_any}
use Rattle.vr_types.specs.LockName.{lock_name_eq}
use Rattle.vr_types.specs.Locks.{Lock, same_unit}
use Rattle.vr_types.specs.declared.lock_name.LockName.{LockName}
use Rattle.vr_types.specs.declared.lock_name.LockName.TheVariants.{Record, Unique}
use Rattle.vr_types.specs.declared.request.Request.{Request}
use Rattle.vr_types.specs.declared.request.Request.TheVariants.{Get, Point, Add, Update, Erase}
use Rattle.vr_types.specs.declared.request.Request.TheVariants.{EndReq, Commit, Backout}
use Rattle.vr_types.specs.declared.unit.Integrity.{Integrity}
use Rattle.vr_types.specs.declared.unit.Integrity.TheVariants.{Nri, Cr, Cre}
use Rattle.vr_types.specs.declared.unit.Mode.{Mode}
use Rattle.vr_types.specs.declared.unit.Mode.TheVariants.{Shared, Exclusive}
use Rattle.vr_types.specs.declared.unit.Unit.{Unit as UnitOfRecovery}
use Rattle.vr_history.specs.Case.{Case}
use Rattle.vr_history.specs.Change.{PairMove, pair_moves, place_changed}
use Rattle.vr_history.specs.Found.{place_read}
use Rattle.vr_history.specs.Opened.{base_of}

abbrev pub record_name : Case → List ℕ → LockName
record_name case place = Record (record { 0 = base_of case }) place

abbrev pub key_name : PairMove → List ℕ → LockName
key_name move key = Unique (record { 0 = move.alternate.part }) key

-- the keys of a unique alternate that a change gives up and takes
abbrev pub keys_moved : PairMove → List LockName
keys_moved move = map (key_name move) (option_to_list move.given_up ++ option_to_list move.taken)

abbrev pub change_names : Case → List LockName
change_names case = map (record_name case) (option_to_list (place_changed case))
    ++ flat_map keys_moved (filter (λ move. move.alternate.unique) (pair_moves case))

abbrev pub read_names : Case → List LockName
read_names case = map (record_name case) (option_to_list (place_read case))

-- how a read asks for its record, if it does
abbrev pub mode_by : Integrity → Option Mode
mode_by Nri = None
mode_by Cr = Some Shared
mode_by Cre = Some Shared

abbrev pub read_mode : Bool → Integrity → Option Mode
read_mode true integrity = Some Exclusive
read_mode false integrity = mode_by integrity

-- the names that a request asks for, each in the order in which they are tried, and how
abbrev pub lock_names : Case → Request → List LockName
lock_names case (Get file find update integrity) =
    option_map_or (λ mode. read_names case) (read_mode update integrity) []
lock_names case (Point file find) = []
lock_names case (Add file place bytes) = change_names case
lock_names case (Update file bytes) = change_names case
lock_names case (Erase file) = change_names case
lock_names case (EndReq file) = []
lock_names case Commit = []
lock_names case Backout = []

abbrev pub mode_asked : Request → Mode
mode_asked (Get file find true integrity) = Exclusive
mode_asked (Get file find false integrity) = Shared
mode_asked (Point file find) = Shared
mode_asked (Add file place bytes) = Exclusive
mode_asked (Update file bytes) = Exclusive
mode_asked (Erase file) = Exclusive
mode_asked (EndReq file) = Shared
mode_asked Commit = Shared
mode_asked Backout = Shared

-- a name is locked in a mode: a lock of the unit is raised in its place, and else a new one comes
-- last
abbrev pub raised : Mode → Mode → Mode
raised Shared Shared = Shared
raised Shared Exclusive = Exclusive
raised Exclusive Shared = Exclusive
raised Exclusive Exclusive = Exclusive

abbrev pub is_own : UnitOfRecovery → LockName → Lock → Bool
is_own unit name lock = same_unit unit lock.unit && lock_name_eq name lock.name

abbrev pub raises : UnitOfRecovery → LockName → Mode → Lock → Lock
raises unit name mode lock =
    cond (is_own unit name lock) (record lock { mode = raised lock.mode mode }) lock

abbrev pub with_lock : UnitOfRecovery → Mode → LockName → List Lock → List Lock
with_lock unit mode name locks =
    cond (list_any (is_own unit name) locks) (map (raises unit name mode) locks) (locks
    ++ record { name = name; unit = unit; mode = mode } ∷ [])

abbrev pub with_locks : UnitOfRecovery → Mode → List LockName → List Lock → List Lock
with_locks unit mode [] locks = locks
with_locks unit mode (name ∷ names) locks =
    with_locks unit mode names (with_lock unit mode name locks)
