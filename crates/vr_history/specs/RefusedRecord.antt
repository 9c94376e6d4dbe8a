-- Refusals of a request by where its file stands, by what it holds for update, by the locks of
-- others, and by the records that are there. Each word answers the refusal exactly where its cause
-- is there. The causes are those of the return codes of DFSMS Using Data Sets; that a lock is
-- refused at once is this project's own rule.
use Rattle.std.specs.Prelude.{ℕ, Bool, true, false, not, nat_eq, List, Option, Some, None, ◌&&◌}
use Rattle.std.specs.Prelude.{◌||◌, length, bytes_eq, find, is_none, is_some, option_map}
use Rattle.std.specs.Prelude.{option_and_then}
use Rattle.std.specs.List.{list_any}
use Rattle.std.specs.Option.{option_map_or}
use Rattle.vr_types.specs.Locks.{Lock, conflict_on}
use Rattle.vr_catalog.specs.declared.definition.Definition.{Definition}
use Rattle.vr_catalog.specs.Definition.{key_of}
use Rattle.vr_types.specs.Content.{record_at}
use Rattle.vr_types.specs.declared.position.Stand.{Stand}
use Rattle.vr_types.specs.declared.position.Stand.TheVariants.{Start, At, After, End}
use Rattle.vr_types.specs.declared.position.Stand.TheVariants.{None as Nowhere}
use Rattle.vr_types.specs.declared.reply.Refusal.{Refusal}
use Rattle.vr_types.specs.declared.reply.Refusal.TheVariants.{EndOfData, Duplicate, NotFound}
use Rattle.vr_types.specs.declared.reply.Refusal.TheVariants.{NoAddress, NoPosition, NoGet}
use Rattle.vr_types.specs.declared.reply.Refusal.TheVariants.{KeyChanged, LengthChanged, Held}
use Rattle.vr_types.specs.declared.request.Find.{Find}
use Rattle.vr_types.specs.declared.request.Find.TheVariants.{Next, Equal, AtLeast}
use Rattle.vr_types.specs.declared.request.Request.{Request}
use Rattle.vr_types.specs.declared.request.Request.TheVariants.{Get, Point, Add, Update, Erase}
use Rattle.vr_types.specs.declared.request.Request.TheVariants.{EndReq, Commit, Backout}
use Rattle.vr_types.specs.declared.unit.Kind.{Kind}
use Rattle.vr_types.specs.declared.unit.Kind.TheVariants.{Keyed, Entry, Relative}
use Rattle.vr_history.specs.Case.{Case, acts_on_held, dropped, is_add}
use Rattle.vr_history.specs.Change.{PairMove, field_in, move_of, moves_key, old_record, pair_moves}
use Rattle.vr_history.specs.Change.{place_changed, record_held}
use Rattle.vr_history.specs.Found.{Standing_at, place_read, records_in, stand_of}
use Rattle.vr_history.specs.Names.{lock_names, mode_asked}
use Rattle.vr_history.specs.Opened.{Opened, Unknown, Cluster, ByPath, opened, base_of}
use Rattle.vr_history.specs.RefusedFile.{refused_if}

abbrev pub is_nowhere : Stand → Bool
is_nowhere Start = false
is_nowhere (At place) = false
is_nowhere (After place) = false
is_nowhere End = false
is_nowhere Nowhere = true

abbrev pub is_sequential : Request → Bool
is_sequential (Get file Next update integrity) = true
is_sequential (Get file (Equal place) update integrity) = false
is_sequential (Get file (AtLeast place) update integrity) = false
is_sequential (Point file find) = false
is_sequential (Add file place bytes) = false
is_sequential (Update file bytes) = false
is_sequential (Erase file) = false
is_sequential (EndReq file) = false
is_sequential Commit = false
is_sequential Backout = false

-- a sequential GET of a file that stands nowhere
abbrev pub no_position : Case → Option Refusal
no_position case =
    refused_if (is_sequential case.request
    && option_map_or is_nowhere (stand_of case) false) NoPosition

-- an update or an erase, and the file holds nothing for update
abbrev pub no_get : Case → Option Refusal
no_get case = refused_if (acts_on_held case.request && is_none (dropped case)) NoGet

-- an update or an erase of a record that isn't there any more
abbrev pub gone : Case → Option Refusal
gone case = refused_if (acts_on_held case.request && is_none (old_record case)) NotFound

-- the key of a key-sequenced record stays, and by a path the key of its alternate index too
abbrev pub other_key : Kind → Definition → List ℕ → List ℕ → Bool
other_key Keyed definition place bytes = not (bytes_eq (key_of definition bytes) place)
other_key Entry definition place bytes = false
other_key Relative definition place bytes = false

abbrev pub changes_key : Case → Opened → List ℕ → List ℕ → Bool
changes_key case Unknown place bytes = false
changes_key case (Cluster definition) place bytes = other_key definition.kind definition place bytes
changes_key case (ByPath definition alternate) place bytes =
    other_key definition.kind definition place bytes || moves_key (move_of case place alternate)

abbrev pub key_changes : Case → Request → Bool
key_changes case (Update file bytes) =
    option_map_or (λ place. changes_key case (opened case) place bytes) (dropped case) false
key_changes case (Get file find update integrity) = false
key_changes case (Point file find) = false
key_changes case (Add file place bytes) = false
key_changes case (Erase file) = false
key_changes case (EndReq file) = false
key_changes case Commit = false
key_changes case Backout = false

abbrev pub key_changed : Case → Option Refusal
key_changed case = refused_if (key_changes case case.request) KeyChanged

-- an entry-sequenced record keeps its length
abbrev pub other_length : Kind → Option (List ℕ) → List ℕ → Bool
other_length Keyed old bytes = false
other_length Entry old bytes =
    option_map_or (λ record_now. not (nat_eq (length record_now) (length bytes))) old false
other_length Relative old bytes = false

abbrev pub changes_length : Case → Opened → List ℕ → Bool
changes_length case Unknown bytes = false
changes_length case (Cluster definition) bytes =
    other_length definition.kind (old_record case) bytes
changes_length case (ByPath definition alternate) bytes =
    other_length definition.kind (old_record case) bytes

abbrev pub length_changes : Case → Request → Bool
length_changes case (Update file bytes) = changes_length case (opened case) bytes
length_changes case (Get file find update integrity) = false
length_changes case (Point file find) = false
length_changes case (Add file place bytes) = false
length_changes case (Erase file) = false
length_changes case (EndReq file) = false
length_changes case Commit = false
length_changes case Backout = false

abbrev pub length_changed : Case → Option Refusal
length_changed case = refused_if (length_changes case case.request) LengthChanged

-- a lock of another unit conflicts: the earliest on the first name that has one
abbrev pub conflict_in : Case → Option Lock
conflict_in case =
    conflict_on case.state.locks case.unit (mode_asked case.request) (lock_names case case.request)

abbrev pub held_by : Lock → Refusal
held_by lock = Held lock.unit lock.name lock.mode

abbrev pub held : Case → Option Refusal
held case = option_map held_by (conflict_in case)

-- how a record that isn't there is refused: by an address of an entry-sequenced data set, and else
abbrev pub absent_by : Kind → Refusal
absent_by Keyed = NotFound
absent_by Entry = NoAddress
absent_by Relative = NotFound

abbrev pub absent_in : Opened → Refusal
absent_in Unknown = NotFound
absent_in (Cluster definition) = absent_by definition.kind
absent_in (ByPath definition alternate) = NotFound

abbrev pub absent_for : Opened → Find → Refusal
absent_for opened Next = EndOfData
absent_for opened (Equal place) = absent_in opened
absent_for opened (AtLeast place) = absent_in opened

-- the record that a read gives: the one that stands at its place
abbrev pub record_read : Case → Option (List ℕ)
record_read case = option_and_then (record_held case) (place_read case)

abbrev pub absent_to : Case → Request → Option Refusal
absent_to case (Get file find update integrity) =
    refused_if (is_none (record_read case)) (absent_for (opened case) find)
absent_to case (Point file find) =
    refused_if (is_none (record_read case)) (absent_for (opened case) find)
absent_to case (Add file place bytes) = None
absent_to case (Update file bytes) = None
absent_to case (Erase file) = None
absent_to case (EndReq file) = None
absent_to case Commit = None
absent_to case Backout = None

-- no record is there for a read
abbrev pub absent : Case → Option Refusal
absent case = absent_to case case.request

-- an add whose place has a record
abbrev pub has_record : Case → Bool
has_record case = is_some (option_and_then (record_held case) (place_changed case))

abbrev pub duplicate : Case → Option Refusal
duplicate case =
    refused_if (is_add case.request && has_record case) (Duplicate (record { 0 = base_of case }))

-- another record of the base has the key
abbrev pub has_key : PairMove → List ℕ → Standing_at → Bool
has_key move key record_at = not (bytes_eq record_at.0 move.place)
    && option_map_or (bytes_eq key) (field_in move.alternate (Some record_at.1)) false

abbrev pub is_taken : Case → PairMove → Bool
is_taken case move =
    option_map_or
    (λ key. list_any (has_key move key) (records_in (case.state.contents (base_of case))))
    move.taken false

-- a change takes a key of a unique alternate index that another record has: of the first such by
-- part number
abbrev pub taken_twice : Case → Option PairMove
taken_twice case = find (λ move. move.alternate.unique && is_taken case move) (pair_moves case)

abbrev pub duplicate_key : Case → Option Refusal
duplicate_key case =
    option_map (λ move. Duplicate (record { 0 = move.alternate.part })) (taken_twice case)
