-- What a volume has in memory of its record file, beside the records: catalog, locks, positions,
-- unit numbers, the fault that stopped it and its history; and when that is what its history gives.
-- The rules are those of the record file; how it is kept is this project's own.
use Rattle.std.specs.Prelude.{◌≡◌, ◌⊎◌, ◌+◌, ◌-◌, ◌^◌, ◌<◌, IsSome, nat_lt, ℕ, max, Bool, true}
use Rattle.std.specs.Prelude.{false, not, ◌==◌, ◌&&◌, ◌||◌, List, []}
use Rattle.std.specs.Prelude.{◌∷◌, ◌++◌, Option, Some, None, filter, find, map, if◌then◌else◌}
use Rattle.std.specs.List.{AllByRecursion, list_any}
use Rattle.std.specs.Option.{option_and_then, option_map, option_map_or, unwrap_or}
use Rattle.vr_browse.specs.Positions.{position_at, position_of, without_deck, without_held}
use Rattle.vr_browse.specs.declared.positions.FilePosition.{FilePosition}
use Rattle.vr_catalog.specs.declared.entry.CatEntry.{CatEntry}
use Rattle.vr_types.specs.Locks.{Lock, conflict_on, same_unit}
use Rattle.vr_types.specs.declared.geometry.Geometry.{Geometry}
use Rattle.vr_types.specs.declared.lock_name.LockName.{LockName}
use Rattle.vr_types.specs.declared.lock_name.LockName.TheVariants.{Record}
use Rattle.vr_types.specs.declared.position.Stand.{Stand}
use Rattle.vr_types.specs.declared.position.Stand.TheVariants.{After, Start}
use Rattle.vr_types.specs.declared.unit.Integrity.{Integrity}
use Rattle.vr_types.specs.declared.unit.Integrity.TheVariants.{Nri, Cr, Cre}
use Rattle.vr_types.specs.declared.unit.Mode.{Mode}
use Rattle.vr_types.specs.declared.unit.Mode.TheVariants.{Shared, Exclusive}
use Rattle.vr_types.specs.declared.fault.DeviceFault.TheVariants.{Write}
use Rattle.vr_types.specs.declared.reply.Refusal.TheVariants.{WriteFault}
use Rattle.vr_types.specs.declared.reply.Reply.{Reply}
use Rattle.vr_types.specs.declared.reply.Reply.TheVariants.{Refused}
use Rattle.vr_types.specs.declared.request.FileRef.{FileRef}
use Rattle.vr_types.specs.declared.request.Find.{Find}
use Rattle.vr_types.specs.declared.request.Find.TheVariants.{Next, Equal, AtLeast}
use Rattle.vr_types.specs.declared.request.Request.{Request}
use Rattle.vr_types.specs.declared.request.Request.TheVariants.{Get, Point, Add, Update, Erase}
use Rattle.vr_types.specs.declared.request.Request.TheVariants.{EndReq, Commit, Backout}
use Rattle.vr_history.specs.Case.{Case, file_of, find_of}
use Rattle.vr_types.specs.declared.unit.Unit.{Unit as UnitOfRecovery}
use Rattle.vr_history.specs.declared.entry.Entry.{Entry}
use Rattle.vr_history.specs.declared.entry.What.{What}
use Rattle.vr_history.specs.declared.entry.What.TheVariants.{Asked, Undone, Claimed, Split, Faulted}
use Rattle.vr_history.specs.Effects.{has_part, is_other, parts_laid}
use Rattle.vr_history.specs.Found.{stand_of}
use Rattle.vr_history.specs.Legal.{IsLegal, is_backout, state_of}
use Rattle.vr_history.specs.Merged.{last_stamp}
use Rattle.vr_history.specs.Names.{with_locks}
use Rattle.vr_history.specs.Opened.{catalog_of}
use Rattle.vr_history.specs.Replies.{MayReply}
use Rattle.vr_history.specs.State.{BeforeImage, Logged, State}
use Rattle.vr_history.specs.Step.{IsOfUnit, case_of, read_on}
use Rattle.vr_answer.specs.Kept.{is_under}
use Rattle.vr_answer.specs.Least.{found_at}
use Rattle.vr_answer.specs.Scope.{HasNoneBuilt}
use Rattle.vr_record_file.specs.declared.numbers.DeckNumber.{DeckNumber}

-- what it is seen as
pub record FileNow : Type 0 where
  pub geometry : Geometry
  pub catalog : List CatEntry
  pub locks : List Lock
  pub files : List FilePosition
  -- the decks that were entered, with the numbers of their units
  pub numbers : List DeckNumber
  pub stopped : Option ℕ
  pub entries : List Entry
  -- for how many more entries, and files, there is room
  pub room : ℕ
  pub files_room : ℕ

-- the number of a deck's unit: the first, where it wasn't entered
abbrev pub is_of_deck : ℕ → DeckNumber → Bool
is_of_deck deck number = number.deck == deck

abbrev pub number_of : List DeckNumber → ℕ → ℕ
number_of numbers deck =
    option_map_or (λ (number : DeckNumber). number.number) (find (is_of_deck deck) numbers) 1

-- a deck was entered
abbrev pub has_deck : ℕ → List DeckNumber → Bool
has_deck deck numbers = list_any (is_of_deck deck) numbers

-- the deck's next unit begins; the last number stays
abbrev pub raised_for : ℕ → DeckNumber → DeckNumber
raised_for deck number =
    if number.deck == deck
    && nat_lt number.number (2 ^ 32 - 1) then record number { number = number.number + 1 } else
    number

-- the place that the file of a request holds for update
abbrev pub held_in : List FilePosition → ℕ → Option FileRef → Option (List ℕ)
held_in files deck on =
    option_and_then (λ (file : FileRef). (position_of files deck file.slot).held) on

-- the state that its history gives
abbrev pub state_now : State → FileNow → State
state_now opening file = state_of file.geometry opening file.entries

-- ---- what goes on from one entry to the next

-- a place that the log has is under its unit's exclusive lock
abbrev pub IsLockedIn : List Lock → Logged → Type 0
IsLockedIn locks logged =
    list_any (is_under logged.unit (Record (record { 0 = logged.part }) logged.place)) locks ≡ true

-- it is of a deck, and not of the utilities; nor is it in the catalog
abbrev pub IsOfDeck : Logged → Type 0
IsOfDeck logged = ((logged.unit.deck == 0) ≡ false) × ((logged.part == 0) ≡ false)

-- nor is a before-image
abbrev pub IsOfCluster : BeforeImage → Type 0
IsOfCluster kept = (kept.part == 0) ≡ false

-- a before-image is of a deck; and the before-images of decks are of clusters
abbrev pub IsKeptByDeck : BeforeImage → Type 0
IsKeptByDeck kept = (kept.unit.deck == 0) ≡ false

abbrev pub IsOfClusterByDeck : BeforeImage → Type 0
IsOfClusterByDeck kept = IsKeptByDeck kept → IsOfCluster kept

-- A unit that has put a before-image back asks for BACKOUT next: it has begun to undo until its
-- next request.
abbrev pub undoing_after : UnitOfRecovery → Bool → Entry → What → Bool
undoing_after unit before entry (Asked request reply) =
    before && not (same_unit unit entry.unit)
undoing_after unit before entry (Undone part place) = before || same_unit unit entry.unit
undoing_after unit before entry (Claimed part area) = before
undoing_after unit before entry (Split part) = before
undoing_after unit before entry (Faulted fault) = before

abbrev pub is_undoing_from : UnitOfRecovery → Bool → List Entry → Bool
is_undoing_from unit before [] = before
is_undoing_from unit before (entry ∷ entries) =
    is_undoing_from unit (undoing_after unit before entry entry.what) entries

abbrev pub is_undoing : UnitOfRecovery → List Entry → Bool
is_undoing unit entries = is_undoing_from unit false entries

-- ---- the record file in memory

-- What is in memory is what this state has. Once the volume has stopped, no answer looks at locks;
-- and until then each owned area is of a part in the catalog, and only decks have part in what live
-- units logged and keep. A definition, or an edit of the catalog, that meets a fault of a
-- write leaves its unit, of the utilities, in doubt, and the areas of a part that goes with its entry
-- owned.
pub record IsOf (file : FileNow) (state : State) : Type 0 where
  pub catalog : file.catalog ≡ catalog_of state
  pub locks : file.stopped ≡ None → file.locks ≡ state.locks
  pub positions : (deck slot : ℕ) → position_of file.files deck slot
      ≡ state.positions deck slot
  pub numbers : (deck : ℕ) → number_of file.numbers deck ≡ state.numbers deck
  pub stopped : file.stopped ≡ state.stopped
  pub unbuilt : HasNoneBuilt state
  pub owned : file.stopped ≡ None
      → AllByRecursion (λ owned. has_part (parts_laid file.catalog) owned.part ≡ true) state.owned
  pub locked : AllByRecursion (IsLockedIn state.locks) state.logged
  pub of_decks : file.stopped ≡ None → AllByRecursion IsOfDeck state.logged
  pub of_clusters : file.stopped ≡ None → AllByRecursion IsOfCluster state.befores
  pub kept_by_decks : file.stopped ≡ None → AllByRecursion IsKeptByDeck state.befores
  pub deck_clusters : AllByRecursion IsOfClusterByDeck state.befores

-- Its history is legal from this opening, what is in memory is what it gives, and no unit of the
-- utilities has begun to undo.
pub record IsStateOf (opening : State) (file : FileNow) : Type 0 where
  pub legal : IsLegal file.geometry opening file.entries
  pub now : IsOf file (state_now opening file)
  pub utilities : (unit : UnitOfRecovery) → unit.deck ≡ 0 → is_undoing unit file.entries ≡ false

-- A request may be entered with this reply: it is of its deck's current unit, which asks for
-- BACKOUT where it has begun to undo.
pub record MayBeAsked (opening : State) (file : FileNow) (unit : UnitOfRecovery) (request : Request)
    (reply : Reply) : Type 0 where
  pub current : IsOfUnit (state_now opening file) unit
  pub of_deck : (unit.deck == 0) ≡ false
  pub reply_is : MayReply (case_of file.geometry (state_now opening file) unit request) reply
  pub goes_on : (is_undoing unit file.entries ≡ false) ⊎ (is_backout request ≡ true)

-- the next stamp: above those of its history, and above one that is handed in
abbrev pub next_stamp : List Entry → ℕ → ℕ
next_stamp entries after = max (last_stamp 0 entries) after + 1

-- the entry of an event, at the next stamp
abbrev pub entry_next : List Entry → ℕ → UnitOfRecovery → ℕ → What → Entry
entry_next entries after unit line what =
    record { stamp = next_stamp entries after; unit = unit; line = line; what = what }

-- the record file with an event more in its history, and nothing else changed
abbrev pub with_event : ℕ → UnitOfRecovery → ℕ → What → FileNow → FileNow
with_event after unit line what file =
    record file {
      entries = file.entries ++ entry_next file.entries after unit line what ∷ [];
      room = file.room - 1;
    }

-- the record file with what is in memory changed, and its history as it was
abbrev pub with_memory : FileNow → FileNow → FileNow
with_memory file to = record to { geometry = file.geometry; entries = file.entries }

-- what a request's file holds for update is dropped
abbrev pub files_let_go : ℕ → Option FileRef → List FilePosition → List FilePosition
files_let_go deck None files = files
files_let_go deck (Some on) files = without_held deck on.slot files

abbrev pub lets_go : ℕ → Request → FileNow → FileNow
lets_go deck request file =
    record file { files = files_let_go deck (file_of request) file.files }

-- a write failed: the fault stops the volume
abbrev pub faulted : ℕ → UnitOfRecovery → ℕ → FileNow → FileNow
faulted after unit line file =
    record (with_event after unit line (Faulted Write) file) {
      stopped = Some (next_stamp file.entries after);
    }

-- A write failed as a request was met: it is refused, and at the next stamp the fault stops the
-- volume.
abbrev pub asked_failing : ℕ → UnitOfRecovery → ℕ → Request → FileNow → FileNow
asked_failing after unit line request file =
    with_event after unit line (Asked request (Refused WriteFault))
    (lets_go unit.deck request file)

abbrev pub failed : ℕ → UnitOfRecovery → ℕ → Request → FileNow → FileNow
failed after unit line request file =
    faulted 0 unit line (asked_failing after unit line request file)

-- a unit ends: its locks go, its deck's files let go what they hold, and its deck's number rises
abbrev pub ended : UnitOfRecovery → FileNow → FileNow
ended unit file =
    record file {
      locks = filter (λ lock. is_other unit lock.unit) file.locks;
      files = without_deck unit.deck file.files;
      numbers = map (raised_for unit.deck) file.numbers;
    }

-- a request that ends its unit
abbrev pub EndsUnit : Request → Type 0
EndsUnit request = (request ≡ Commit) ⊎ (request ≡ Backout)

-- there is room for the position of a request's file, or it was set before
abbrev pub CanSet : FileNow → ℕ → Option FileRef → Type 0
CanSet file deck None = Unit {0}
CanSet file deck (Some on) =
    IsSome (position_at file.files deck on.slot) ⊎ (0 < file.files_room)

-- how a read that is done locks its record, where it keeps the lock
abbrev pub by_integrity : Integrity → Option Mode
by_integrity Nri = None
by_integrity Cr = None
by_integrity Cre = Some Shared

abbrev pub mode_kept : Request → Option Mode
mode_kept (Get on find true integrity) = Some Exclusive
mode_kept (Get on find false integrity) = by_integrity integrity
mode_kept (Point on find) = None
mode_kept (Add on place bytes) = None
mode_kept (Update on bytes) = None
mode_kept (Erase on) = None
mode_kept (EndReq on) = None
mode_kept Commit = None
mode_kept Backout = None

abbrev pub locks_kept : UnitOfRecovery → Option Mode → List LockName → List Lock → List Lock
locks_kept unit None names locks = locks
locks_kept unit (Some mode) names locks = with_locks unit mode names locks

-- the lock that is in the way of those that are kept
abbrev pub conflict_kept : UnitOfRecovery → Option Mode → List LockName → List Lock → Option Lock
conflict_kept unit None names locks = None
conflict_kept unit (Some mode) names locks = conflict_on locks unit mode names

-- ---- where files stand

-- where a request's file stands, where its deck has used it
abbrev pub stand_in : List FilePosition → ℕ → Option FileRef → Option Stand
stand_in files deck on = option_and_then
    (λ (file : FileRef). option_map (λ position. position.stand)
    (position_at files deck file.slot)) on

-- Where the file of a GET that is done stands afterwards: a sequential one goes on after the record
-- that it found, and any other leaves it where it stood.
abbrev pub stand_done : Case → Stand
stand_done case =
    unwrap_or (option_and_then (λ find. option_and_then (read_on find) (found_at case))
    (find_of case.request)) (unwrap_or (stand_of case) Start)

-- the same, by where the record that it found is, and by where its file stood
abbrev pub stand_by : Find → List ℕ → Option Stand → Stand
stand_by Next at stood = After at
stand_by (Equal place) at stood = unwrap_or stood Start
stand_by (AtLeast place) at stood = unwrap_or stood Start

abbrev pub stand_read : Request → List ℕ → Option Stand → Stand
stand_read (Get on find update integrity) at stood = stand_by find at stood
stand_read (Point on find) at stood = unwrap_or stood Start
stand_read (Add on place bytes) at stood = unwrap_or stood Start
stand_read (Update on bytes) at stood = unwrap_or stood Start
stand_read (Erase on) at stood = unwrap_or stood Start
stand_read (EndReq on) at stood = unwrap_or stood Start
stand_read Commit at stood = unwrap_or stood Start
stand_read Backout at stood = unwrap_or stood Start
