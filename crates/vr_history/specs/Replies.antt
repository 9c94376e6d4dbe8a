-- Which reply a request may have: its first refusal in the order in which they are tried, or what a
-- request that is done answers (DFSMS Using Data Sets). In place of it may come a fault of the
-- device, or that memory ran out. The order is this project's own.
use Rattle.std.specs.Prelude.{◌≡◌, ◌⊎◌, ℕ, Bool, true, false, not, List, [], ◌∷◌, ◌++◌, Option}
use Rattle.std.specs.Prelude.{Some, None, ◌&&◌, IsTrue, bytes_eq, take, filter_map, is_none}
use Rattle.std.specs.List.{list_any}
use Rattle.std.specs.Option.{option_map_or}
use Rattle.std.specs.Ordering.{is_lt}
use Rattle.vr_types.specs.Locks.{same_unit}
use Rattle.vr_catalog.specs.Catalog.{Alternate}
use Rattle.vr_types.specs.Content.{place_cmp}
use Rattle.vr_types.specs.declared.reply.Refusal.{Refusal}
use Rattle.vr_types.specs.declared.reply.Refusal.TheVariants.{Memory, NoSpace, ReadFault}
use Rattle.vr_types.specs.declared.reply.Refusal.TheVariants.{WriteFault}
use Rattle.vr_types.specs.declared.reply.Reply.{Reply}
use Rattle.vr_types.specs.declared.reply.Reply.TheVariants.{Done, Refused}
use Rattle.vr_types.specs.declared.request.Request.{Request}
use Rattle.vr_types.specs.declared.request.Request.TheVariants.{Get, Point, Add, Update, Erase}
use Rattle.vr_types.specs.declared.request.Request.TheVariants.{EndReq, Commit, Backout}
use Rattle.vr_types.specs.declared.unit.Kind.{Kind}
use Rattle.vr_types.specs.declared.unit.Kind.TheVariants.{Keyed, Entry, Relative}
use Rattle.vr_history.specs.Case.{Case, new_record}
use Rattle.vr_history.specs.Change.{PairMove, pair_moves, place_changed}
use Rattle.vr_history.specs.Found.{Candidate, candidate_in, found, place_read, records_in}
use Rattle.vr_history.specs.Opened.{Opened, Unknown, Cluster, ByPath, base_of, definition_in}
use Rattle.vr_history.specs.Opened.{opened}
use Rattle.vr_history.specs.RefusedFile.{bad_length, bad_slot, no_file, not_allowed, stopped}
use Rattle.vr_history.specs.RefusedRecord.{absent, duplicate, duplicate_key, gone, held, is_taken}
use Rattle.vr_history.specs.RefusedRecord.{key_changed, length_changed, no_get, no_position}
use Rattle.vr_history.specs.RefusedRecord.{record_read}
use Rattle.vr_history.specs.RefusedRoom.{log_full, no_space}

-- the first of some refusals that has its cause
abbrev pub first_of : List (Option Refusal) → Option Refusal
first_of [] = None
first_of (None ∷ refusals) = first_of refusals
first_of (Some refusal ∷ refusals) = Some refusal

-- The refusals in the order in which they are tried: those that no fault of the device comes
-- before,
abbrev pub before_all : Case → List (Option Refusal)
before_all case = no_file case ∷ stopped case ∷ []

-- those by the request, by what its file holds, by locks and records, and by the areas of numbered
-- places,
abbrev pub before_room : Case → List (Option Refusal)
before_room case = before_all case
    ++ not_allowed case ∷ bad_slot case ∷ bad_length case ∷ no_position case ∷ no_get case ∷ gone
    case ∷ key_changed case
    ∷ length_changed case ∷ held case ∷ absent case ∷ duplicate case ∷ duplicate_key case ∷ no_space
    case ∷ []

-- and all, that of the log last.
abbrev pub all_refusals : Case → List (Option Refusal)
all_refusals case = before_room case ++ log_full case ∷ []

-- through a path, a later pair has the key of the one that was found
abbrev pub is_later : Alternate → Candidate → Candidate → Bool
is_later alternate this other =
    bytes_eq (take alternate.key_length this.at) (take alternate.key_length other.at)
    && is_lt (place_cmp this.at other.at)

abbrev pub pairs_seen : Case → List Candidate
pairs_seen case =
    filter_map (candidate_in (opened case)) (records_in (case.state.contents (base_of case)))

abbrev pub has_later : Opened → Case → Candidate → Bool
has_later Unknown case this = false
has_later (Cluster definition) case this = false
has_later (ByPath definition alternate) case this =
    list_any (is_later alternate this) (pairs_seen case)

-- feedback 8: through a path, more records have the key
abbrev pub feedback_if : Bool → ℕ
feedback_if true = 8
feedback_if false = 0

abbrev pub read_feedback : Case → ℕ
read_feedback case = feedback_if (option_map_or (has_later (opened case) case) (found case) false)

-- feedback 8: a key of an alternate index that isn't unique was taken, and another record has it
abbrev pub is_shared : Case → PairMove → Bool
is_shared case move = not move.alternate.unique && is_taken case move

abbrev pub change_feedback : Case → ℕ
change_feedback case = feedback_if (list_any (is_shared case) (pair_moves case))

-- the reply to a request that isn't refused: with the place of the base, and a GET with the record
abbrev pub done_by : Case → Request → Reply
done_by case (Get file find update integrity) =
    Done (read_feedback case) (place_read case) (record_read case)
done_by case (Point file find) = Done 0 (place_read case) None
done_by case (Add file place bytes) = Done (change_feedback case) (place_changed case) None
done_by case (Update file bytes) = Done (change_feedback case) (place_changed case) None
done_by case (Erase file) = Done 0 (place_changed case) None
done_by case (EndReq file) = Done 0 None None
done_by case Commit = Done 0 None None
done_by case Backout = Done 0 None None

abbrev pub refused_or : Option Refusal → Reply → Reply
refused_or None done = done
refused_or (Some refusal) done = Refused refusal

-- the reply where memory is ample, the device has no fault, and key-sequenced parts have room
abbrev pub answer_of : Case → Reply
answer_of case = refused_or (first_of (all_refusals case)) (done_by case case.request)

-- out of memory may take the place of any reply to a request on a file but that of the first
-- refusals
abbrev pub may_want : Request → Bool
may_want (Get file find update integrity) = true
may_want (Point file find) = true
may_want (Add file place bytes) = true
may_want (Update file bytes) = true
may_want (Erase file) = true
may_want (EndReq file) = true
may_want Commit = false
may_want Backout = false

-- a COMMIT reads nothing
abbrev pub may_read : Request → Bool
may_read (Get file find update integrity) = true
may_read (Point file find) = true
may_read (Add file place bytes) = true
may_read (Update file bytes) = true
may_read (Erase file) = true
may_read (EndReq file) = true
may_read Commit = false
may_read Backout = true

-- a key-sequenced cluster gets a record, or an alternate index a pair
abbrev pub is_keyed : Kind → Bool
is_keyed Keyed = true
is_keyed Entry = false
is_keyed Relative = false

abbrev pub fills_base : Case → Bool
fills_base case =
    option_map_or (λ definition. is_keyed definition.kind) (definition_in (opened case)) false

abbrev pub gains_pair : PairMove → Bool
gains_pair move = not (is_none move.taken)

abbrev pub FillsKeyed : Case → Type 0
FillsKeyed case = ((new_record case.request ≡ None → ⊥) × IsTrue (fills_base case))
    ⊎ IsTrue (list_any gains_pair (pair_moves case))

-- A key-sequenced part that lacks room needs an area, and none is free.
abbrev pub lacks_area : Refusal
lacks_area = NoSpace 1 0

-- What may come in place of the answer. A state has no layout, so of a key-sequenced part it doesn't
-- say when it lacks room; the part says so.
abbrev pub LacksRoom : Case → Reply → Type 0
LacksRoom case reply =
    (first_of (before_room case) ≡ None) × FillsKeyed case × (reply ≡ Refused lacks_area)

abbrev pub LacksMemory : Case → Reply → Type 0
LacksMemory case reply = (first_of (before_all case) ≡ None) × IsTrue (may_want case.request)
    × (reply ≡ Refused Memory)

abbrev pub MeetsFault : Case → Reply → Type 0
MeetsFault case reply = (first_of (before_all case) ≡ None)
    × ((reply ≡ Refused WriteFault)
    ⊎ (IsTrue (may_read case.request) × (reply ≡ Refused ReadFault)))

-- a BACKOUT is done only once its unit keeps no before-image
abbrev pub keeps_none : Case → Bool
keeps_none case = not (list_any (λ kept. same_unit case.unit kept.unit) case.state.befores)

abbrev pub CanEnd : Case → Request → Type 0
CanEnd case Backout = IsTrue (keeps_none case)
CanEnd case Commit = Unit {0}
CanEnd case (Get file find update integrity) = Unit {0}
CanEnd case (Point file find) = Unit {0}
CanEnd case (Add file place bytes) = Unit {0}
CanEnd case (Update file bytes) = Unit {0}
CanEnd case (Erase file) = Unit {0}
CanEnd case (EndReq file) = Unit {0}

abbrev pub IsAnswered : Case → Reply → Type 0
IsAnswered case reply = (reply ≡ answer_of case)
    × ((first_of (all_refusals case) ≡ None) → CanEnd case case.request)

-- the replies that a request may have
abbrev pub MayReply : Case → Reply → Type 0
MayReply case reply = IsAnswered case reply ⊎ LacksRoom case reply ⊎ LacksMemory case reply
    ⊎ MeetsFault case reply
