-- What a read, a GET or a POINT, comes to before it is entered, and which of it may be entered. The
-- rules are those of the record file.
use Rattle.std.specs.Prelude.{◌≡◌, ◌⊎◌, ℕ, Bool, true, false, cond, List, Option, Some, None, length}
use Rattle.std.specs.Prelude.{◌==◌, ◌&&◌, bytes_eq, nat_eq, nat_le}
use Rattle.std.specs.Option.{option_map_or}
use Rattle.vr_catalog.specs.Catalog.{definition_of}
use Rattle.vr_catalog.specs.declared.definition.Definition.{Definition}
use Rattle.vr_catalog.specs.declared.entry.CatEntry.{CatEntry}
use Rattle.vr_types.specs.declared.lock_name.LockName.{LockName}
use Rattle.vr_types.specs.declared.reply.Reply.{Reply}
use Rattle.vr_types.specs.declared.reply.Reply.TheVariants as replies
use Rattle.vr_types.specs.declared.request.Request.{Request}
use Rattle.vr_types.specs.declared.request.FileRef.{FileRef}
use Rattle.vr_types.specs.declared.request.Find.{Find}
use Rattle.vr_types.specs.declared.request.Request.TheVariants.{Get, Point, Add, Update, Erase}
use Rattle.vr_types.specs.declared.request.Request.TheVariants.{EndReq, Commit, Backout}
use Rattle.vr_types.specs.declared.unit.Integrity.{Integrity}
use Rattle.vr_types.specs.declared.unit.Kind.{Kind}
use Rattle.vr_types.specs.declared.unit.Kind.TheVariants.{Keyed, Entry, Relative}
use Rattle.vr_types.specs.declared.unit.Unit.{Unit as UnitOfRecovery}
use Rattle.vr_types.specs.Fields.{four}
use Rattle.vr_space.specs.Numbered.{number_of, start_by}
use Rattle.vr_history.specs.declared.entry.What.TheVariants.{Asked}
use Rattle.vr_history.specs.Case.{Case}
use Rattle.vr_history.specs.Found.{place_read}
use Rattle.vr_history.specs.Names.{lock_names}
use Rattle.vr_history.specs.Replies.{MayReply, done_by, first_of}
use Rattle.vr_history.specs.State.{State}
use Rattle.vr_history.specs.Step.{IsOfUnit, case_of}
use Rattle.vr_answer.specs.Least.{found_at}
use Rattle.vr_answer.specs.Tried.{file_refusals}
use Rattle.vr_record_file.specs.Now.{FileNow, failed, is_undoing, state_now, with_event}
use Rattle.vr_types.specs.declared.fault.DeviceFault.TheVariants.{Read, Write}
use Rattle.vr_types.specs.declared.reply.Refusal.{Refusal}
use Rattle.vr_types.specs.declared.reply.Refusal.TheVariants.{Memory as NoMemory, ReadFault}
use Rattle.vr_types.specs.declared.reply.Refusal.TheVariants.{WriteFault}
use Rattle.vr_store.specs.declared.no.LookNo.{LookNo}
use Rattle.vr_store.specs.declared.no.LookNo.TheVariants.{Fault, Memory}
use Rattle.vr_event.specs.declared.getting.Outcome.{Outcome}
use Rattle.vr_event.specs.declared.getting.Outcome.TheVariants.{Refused, Done, Pointed}

-- a GET or a POINT
abbrev pub IsRead : Request → Type 0
IsRead (Get on find update integrity) = Unit {0}
IsRead (Point on find) = Unit {0}
IsRead (Add on place bytes) = ⊥
IsRead (Update on bytes) = ⊥
IsRead (Erase on) = ⊥
IsRead (EndReq on) = ⊥
IsRead Commit = ⊥
IsRead Backout = ⊥

abbrev pub IsGet : Request → Type 0
IsGet (Get on find update integrity) = Unit {0}
IsGet (Point on find) = ⊥
IsGet (Add on place bytes) = ⊥
IsGet (Update on bytes) = ⊥
IsGet (Erase on) = ⊥
IsGet (EndReq on) = ⊥
IsGet Commit = ⊥
IsGet Backout = ⊥

-- how a read that failed is refused
abbrev pub refusal_of : LookNo → Refusal
refusal_of (Fault Read) = ReadFault
refusal_of (Fault Write) = WriteFault
refusal_of Memory = NoMemory

-- it is for update
abbrev pub is_for_update : Request → Bool
is_for_update (Get on find update integrity) = update
is_for_update (Point on find) = false
is_for_update (Add on place bytes) = false
is_for_update (Update on bytes) = false
is_for_update (Erase on) = false
is_for_update (EndReq on) = false
is_for_update Commit = false
is_for_update Backout = false

-- What the entry of a GET that is done takes: its reply, the names that it locks, the place of the
-- record that it found, and the place that its file holds for update.
pub record IsDoneAs (case : Case) (reply : Reply) (names : List LockName) (at : List ℕ)
    (held : Option (List ℕ)) : Type 0 where
  pub on : FileRef
  pub find : Find
  pub update : Bool
  pub integrity : Integrity
  pub is : case.request ≡ Get on find update integrity
  pub reply_is : reply ≡ done_by case case.request
  pub names_are : names ≡ lock_names case case.request
  pub read_at : place_read case ≡ Some at
  pub found_is : found_at case ≡ Some at
  pub held_is : held ≡ cond update (Some at) None

-- What that of a POINT takes: its reply, and the place at which its file stands.
pub record IsPointedAs (case : Case) (reply : Reply) (at : List ℕ) : Type 0 where
  pub on : FileRef
  pub find : Find
  pub is : case.request ≡ Point on find
  pub reply_is : reply ≡ done_by case case.request
  pub found_is : found_at case ≡ Some at

-- what may be entered of it
abbrev pub MayEnd : Case → Outcome → Type 0
MayEnd case (Refused refusal) = MayReply case (replies.Refused refusal)
MayEnd case (Done reply names at held) = MayReply case reply × IsDoneAs case reply names at held
MayEnd case (Pointed reply at) = MayReply case reply × IsPointedAs case reply at

-- a number in four bytes: that of a slot, which is one or more, or else an address
abbrev pub is_number : Bool → List ℕ → Bool
is_number relative place =
    bytes_eq place (four (number_of place)) && nat_le (start_by relative) (number_of place)

-- a place that a record of a definition may have: as long as its keys, an address, or the number of
-- a slot
abbrev pub is_place_for : Kind → List ℕ → Definition → Bool
is_place_for Keyed place definition = nat_eq (length place) definition.key_length
is_place_for Entry place definition = is_number false place
is_place_for Relative place definition = is_number true place

abbrev pub is_place_by : List ℕ → Definition → Bool
is_place_by place definition = is_place_for definition.kind place definition

-- it is one of a part of a catalog
abbrev pub fits_in : List CatEntry → ℕ → List ℕ → Bool
fits_in entries part place = option_map_or (is_place_by place) (definition_of entries part) false

-- A read may be entered: it is of its deck's current unit, which has not begun to undo, and nothing in
-- memory refuses it.
pub record IsAsked (opening : State) (file : FileNow) (unit : UnitOfRecovery) (request : Request)
    : Type 0 where
  pub current : IsOfUnit (state_now opening file) unit
  pub of_deck : (unit.deck == 0) ≡ false
  pub goes_on : is_undoing unit file.entries ≡ false
  pub read : IsRead request
  pub unrefused : first_of (file_refusals (case_of file.geometry (state_now opening file) unit
      request)) ≡ None

-- A request was entered with some reply, and beside it only locks and positions changed; or a write
-- failed.
pub record IsEntered (after : ℕ) (unit : UnitOfRecovery) (line : ℕ) (request : Request)
    (old new : FileNow) : Type 0 where
  pub reply : Reply
  pub leaves : new ≡ with_event after unit line (Asked request reply) (record old {
    locks = new.locks;
    files = new.files;
    files_room = new.files_room;
  })

abbrev pub HasEntered : ℕ → UnitOfRecovery → ℕ → Request → FileNow → FileNow → Type 0
HasEntered after unit line request old new =
    IsEntered after unit line request old new ⊎ (new ≡ failed after unit line request old)
