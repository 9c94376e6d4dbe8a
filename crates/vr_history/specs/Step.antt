-- The step of the record file: which entry may come in a state, and the state after it.
use Rattle.std.specs.Prelude.{◌≡◌, ◌<◌, ℕ, Bool, true, false, List, [], Option, Some, None, ◌==◌}
use Rattle.std.specs.Prelude.{find, length, option_map, option_and_then, option_to_list}
use Rattle.std.specs.List.{list_any}
use Rattle.std.specs.Option.{option_map_or}
use Rattle.vr_catalog.specs.Catalog.{definition_of}
use Rattle.vr_types.specs.Content.{Item, Withdrawn, item_at}
use Rattle.vr_types.specs.Geometry.{area_count}
use Rattle.vr_types.specs.declared.fault.DeviceFault.TheVariants.{Write}
use Rattle.vr_types.specs.declared.geometry.Geometry.{Geometry}
use Rattle.vr_types.specs.declared.position.Stand.{Stand}
use Rattle.vr_types.specs.declared.position.Stand.TheVariants.{At, After, End, None as Nowhere}
use Rattle.vr_types.specs.declared.reply.Refusal.{Refusal}
use Rattle.vr_types.specs.declared.reply.Refusal.TheVariants.{EndOfData, Duplicate, NotFound}
use Rattle.vr_types.specs.declared.reply.Refusal.TheVariants.{NoAddress, NoSpace, NoPosition, NoGet}
use Rattle.vr_types.specs.declared.reply.Refusal.TheVariants.{KeyChanged, LengthChanged, BadLength}
use Rattle.vr_types.specs.declared.reply.Refusal.TheVariants.{BadSlot, Held, LogFull, Stopped}
use Rattle.vr_types.specs.declared.reply.Refusal.TheVariants.{ReadFault, WriteFault, Memory}
use Rattle.vr_types.specs.declared.reply.Refusal.TheVariants.{NotAllowed, NoFile}
use Rattle.vr_types.specs.declared.reply.Reply.{Reply}
use Rattle.vr_types.specs.declared.reply.Reply.TheVariants.{Done, Refused}
use Rattle.vr_types.specs.declared.request.FileRef.{FileRef}
use Rattle.vr_types.specs.declared.request.Find.{Find}
use Rattle.vr_types.specs.declared.request.Find.TheVariants.{Next, Equal, AtLeast}
use Rattle.vr_types.specs.declared.request.Request.{Request}
use Rattle.vr_types.specs.declared.request.Request.TheVariants.{Get, Point, Add, Update, Erase}
use Rattle.vr_types.specs.declared.request.Request.TheVariants.{EndReq, Commit, Backout}
use Rattle.vr_types.specs.declared.unit.Integrity.{Integrity}
use Rattle.vr_types.specs.declared.unit.Integrity.TheVariants.{Nri, Cr, Cre}
use Rattle.vr_types.specs.declared.unit.Kind.{Kind}
use Rattle.vr_types.specs.declared.unit.Kind.TheVariants.{Keyed, Entry as EntrySequenced, Relative}
use Rattle.vr_types.specs.declared.unit.Unit.{Unit as UnitOfRecovery}
use Rattle.vr_history.specs.declared.entry.Entry.{Entry}
use Rattle.vr_history.specs.declared.entry.What.{What}
use Rattle.vr_history.specs.declared.entry.What.TheVariants.{Asked, Undone, Claimed, Split, Faulted}
use Rattle.vr_history.specs.Address.{length_of}
use Rattle.vr_history.specs.Case.{Case, file_of}
use Rattle.vr_history.specs.Change.{Change, change_of}
use Rattle.vr_history.specs.Effects.{changes, claims, drops_held, ends_unit, holding, keeps_before}
use Rattle.vr_history.specs.Effects.{last_kept, locks, logs, moves_file, standing, stops, takes_out}
use Rattle.vr_history.specs.Found.{found, place_read}
use Rattle.vr_history.specs.LogSpace.{log_need, new_loggings}
use Rattle.vr_history.specs.Names.{lock_names}
use Rattle.vr_history.specs.Opened.{catalog_of}
use Rattle.vr_history.specs.Replies.{MayReply}
use Rattle.vr_history.specs.State.{BeforeImage, State}
use Rattle.vr_types.specs.declared.unit.Mode.TheVariants.{Shared, Exclusive}

abbrev pub case_of : Geometry → State → UnitOfRecovery → Request → Case
case_of geometry state unit request =
    record { geometry = geometry; state = state; unit = unit; request = request }

-- What an entry changes, at one place at most: the state after it and the committed contents are
-- both made of this.

-- an added entry-sequenced record that is backed out keeps its address
abbrev pub withdrawn_by : Kind → Option Item → Option Item
withdrawn_by Keyed now = None
withdrawn_by Relative now = None
withdrawn_by EntrySequenced now = option_map (λ item. Withdrawn (length_of item)) now

abbrev pub put_back : State → BeforeImage → Option Item → Option Item
put_back state kept (Some old) = Some old
put_back state kept None =
    option_and_then
    (λ definition. withdrawn_by definition.kind (item_at (state.contents kept.part) kept.place))
    (definition_of (catalog_of state) kept.part)

abbrev pub change_back : State → BeforeImage → Change
change_back state kept =
    record { part = kept.part; place = kept.place; new = put_back state kept kept.old }

abbrev pub asked_changes : Case → Reply → List Change
asked_changes case (Refused refusal) = []
asked_changes case (Done feedback place bytes) = option_to_list (change_of case)

abbrev pub place_changes : Geometry → State → UnitOfRecovery → What → List Change
place_changes geometry state unit (Asked request reply) =
    asked_changes (case_of geometry state unit request) reply
place_changes geometry state unit (Undone part place) =
    option_to_list (option_map (change_back state) (last_kept state unit))
place_changes geometry state unit (Claimed part area) = []
place_changes geometry state unit (Split part) = []
place_changes geometry state unit (Faulted fault) = []

-- What a request that is done leaves, over the state in which its file holds nothing.

-- a sequential read goes on after the record that it found
abbrev pub read_on : Find → List ℕ → Option Stand
read_on Next at = Some (After at)
read_on (Equal place) at = None
read_on (AtLeast place) at = None

abbrev pub stands_in : ℕ → Option FileRef → Option Stand → State → State
stands_in deck None stand state = state
stands_in deck (Some file) None state = state
stands_in deck (Some file) (Some stand) state = moves_file deck file.slot (standing stand) state

abbrev pub stands_after : Case → Option Stand → State → State
stands_after case stand state = stands_in case.unit.deck (file_of case.request) stand state

abbrev pub reads_on : Case → Find → State → State
reads_on case find state =
    stands_after case (option_and_then (λ candidate. read_on find candidate.at) (found case)) state

-- a read for update, and one with CRE, keeps its lock; one for update holds its record
abbrev pub keeps_shared : Case → Integrity → State → State
keeps_shared case Nri state = state
keeps_shared case Cr state = state
keeps_shared case Cre state = locks case.unit Shared (lock_names case case.request) state

abbrev pub holds : Case → State → State
holds case state =
    option_map_or
    (λ file. option_map_or (λ place. moves_file case.unit.deck file.slot (holding place) state)
    (place_read case) state) (file_of case.request) state

abbrev pub keeps_read : Case → Bool → Integrity → State → State
keeps_read case true integrity state =
    holds case (locks case.unit Exclusive (lock_names case case.request) state)
keeps_read case false integrity state = keeps_shared case integrity state

-- a change takes its locks, keeps its before-image, logs its places, and is made
abbrev pub makes : Case → Change → State → State
makes case change state =
    changes change
    (logs case.unit (new_loggings case) (log_need case)
    (keeps_before case.unit change
    (locks case.unit Exclusive (lock_names case case.request) state)))

abbrev pub makes_change : Case → State → State
makes_change case state = option_map_or (λ change. makes case change state) (change_of case) state

-- POINT stands at what it found; ENDREQ stands nowhere
abbrev pub points_at : Case → State → State
points_at case state =
    stands_after case (option_map (λ candidate. At candidate.at) (found case)) state

abbrev pub done_effect : Case → Request → State → State
done_effect case (Get file find update integrity) state =
    reads_on case find (keeps_read case update integrity state)
done_effect case (Point file find) state = points_at case state
done_effect case (Add file place bytes) state = makes_change case state
done_effect case (Update file bytes) state = makes_change case state
done_effect case (Erase file) state = makes_change case state
done_effect case (EndReq file) state = stands_after case (Some Nowhere) state
done_effect case Commit state = ends_unit case.unit state
done_effect case Backout state = ends_unit case.unit state

-- what a refusal moves: past the end of the data, and a POINT that finds nothing
abbrev pub stand_lost : Request → Option Stand
stand_lost (Point file find) = Some Nowhere
stand_lost (Get file find update integrity) = None
stand_lost (Add file place bytes) = None
stand_lost (Update file bytes) = None
stand_lost (Erase file) = None
stand_lost (EndReq file) = None
stand_lost Commit = None
stand_lost Backout = None

abbrev pub stand_refused : Request → Refusal → Option Stand
stand_refused request EndOfData = Some End
stand_refused request NotFound = stand_lost request
stand_refused request NoAddress = stand_lost request
stand_refused request (Duplicate part) = None
stand_refused request (NoSpace need free) = None
stand_refused request NoPosition = None
stand_refused request NoGet = None
stand_refused request KeyChanged = None
stand_refused request LengthChanged = None
stand_refused request (BadLength length) = None
stand_refused request BadSlot = None
stand_refused request (Held holder name mode) = None
stand_refused request (LogFull used need size) = None
stand_refused request (Stopped stamp) = None
stand_refused request ReadFault = None
stand_refused request WriteFault = None
stand_refused request Memory = None
stand_refused request NotAllowed = None
stand_refused request NoFile = None

abbrev pub after_reply : Case → Reply → State → State
after_reply case (Done feedback place bytes) state = done_effect case case.request state
after_reply case (Refused refusal) state =
    stands_after case (stand_refused case.request refusal) state

-- every request on a file first drops what the file holds, also where it is refused then
abbrev pub after_asked : Case → Reply → State
after_asked case reply =
    after_reply case reply (drops_held case.unit.deck (file_of case.request) case.state)

-- the unit's last kept before-image is put back and taken out
abbrev pub puts_back : UnitOfRecovery → State → State
puts_back unit state =
    option_map_or (λ kept. takes_out unit (changes (change_back state kept) state))
    (last_kept state unit) state

-- the state after an entry
abbrev pub after_what : Geometry → State → UnitOfRecovery → ℕ → What → State
after_what geometry state unit stamp (Asked request reply) =
    after_asked (case_of geometry state unit request) reply
after_what geometry state unit stamp (Undone part place) = puts_back unit state
after_what geometry state unit stamp (Claimed part area) = claims area.0 part.0 state
after_what geometry state unit stamp (Split part) = state
after_what geometry state unit stamp (Faulted fault) = stops stamp state

abbrev pub state_after : Geometry → State → Entry → State
state_after geometry state entry = after_what geometry state entry.unit entry.stamp entry.what

-- Which entry may come: a request of its deck's current unit with a reply that it may have,
abbrev pub IsOfUnit : State → UnitOfRecovery → Type 0
IsOfUnit state unit = unit.number ≡ state.numbers unit.deck

-- the unit's last kept before-image, put back at its place,
abbrev pub IsLastKept : State → UnitOfRecovery → ℕ → List ℕ → Type 0
IsLastKept state unit part place = (kept : BeforeImage) × (last_kept state unit ≡ Some kept)
    × (kept.part ≡ part) × (kept.place ≡ place)

-- the least area that no part has,
abbrev pub is_owned : State → ℕ → Bool
is_owned state area = list_any (λ owned. owned.area == area) state.owned

pub record IsLeastFree (geometry : Geometry) (state : State) (area : ℕ) : Type 0 where
  pub below : area < area_count geometry
  pub free : is_owned state area ≡ false
  pub lower_owned : (lower : ℕ) → lower < area → is_owned state lower ≡ true

-- a split of an interval, which leaves the state as it is, or the first fault of a write.
abbrev pub MayEnter : Geometry → State → UnitOfRecovery → What → Type 0
MayEnter geometry state unit (Asked request reply) = IsOfUnit state unit
    × MayReply (case_of geometry state unit request) reply
MayEnter geometry state unit (Undone part place) = IsLastKept state unit part.0 place
MayEnter geometry state unit (Claimed part area) = IsLeastFree geometry state area.0
MayEnter geometry state unit (Split part) = Unit {0}
MayEnter geometry state unit (Faulted fault) = (fault ≡ Write) × (state.stopped ≡ None)

-- an entry may come in a state
abbrev pub Step : Geometry → State → Entry → Type 0
Step geometry state entry = MayEnter geometry state entry.unit entry.what
