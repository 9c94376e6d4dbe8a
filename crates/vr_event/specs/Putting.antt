-- What a PUT or an ERASE comes to before it is made: it is refused, a stage of a split comes first, or
-- it is ready to be made. The rules are those of the record file.
use Rattle.std.specs.Prelude.{◌≡◌, ◌≢◌, ◌<◌, ◌≤◌, ◌+◌, ◌==◌, ◌^◌, ◌&&◌, ℕ, Bool, true, false, List}
use Rattle.std.specs.Prelude.{Option, Some, None, IfSome, IsTrue, length, nat_eq, nat_le, nat_lt}
use Rattle.std.specs.Prelude.{option_map}
use Rattle.vr_types.specs.Content.{Standing, item_at}
use Rattle.vr_types.specs.Image.{Image}
use Rattle.vr_types.specs.Seen.{Seen}
use Rattle.vr_types.specs.declared.geometry.Geometry.{Geometry}
use Rattle.vr_types.specs.declared.lock_name.LockName.{LockName}
use Rattle.vr_types.specs.Space.{free_count}
use Rattle.vr_types.specs.declared.reply.Refusal.{Refusal}
use Rattle.vr_types.specs.declared.reply.Refusal.TheVariants.{NoSpace}
use Rattle.vr_types.specs.declared.reply.Reply.{Reply}
use Rattle.vr_types.specs.declared.reply.Reply.TheVariants as replies
use Rattle.vr_types.specs.declared.request.Request.{Request}
use Rattle.vr_types.specs.declared.request.Request.TheVariants.{Get, Point, Add, Update, Erase}
use Rattle.vr_types.specs.declared.request.Request.TheVariants.{EndReq, Commit, Backout}
use Rattle.vr_types.specs.declared.unit.Kind.{Kind}
use Rattle.vr_types.specs.declared.unit.Kind.TheVariants.{Keyed, Entry, Relative}
use Rattle.vr_types.specs.declared.unit.PartNo.{PartNo}
use Rattle.vr_types.specs.declared.unit.Unit.{Unit as UnitOfRecovery}
use Rattle.vr_catalog.specs.Definition.{key_of}
use Rattle.vr_catalog.specs.declared.definition.Definition.{Definition}
use Rattle.vr_catalog.specs.declared.entry.CatEntry.{CatEntry}
use Rattle.vr_space.specs.Known.{HasMet, Known}
use Rattle.vr_space.specs.Part.{IsLengthOf, IsPlaceOf, IsRecordOf, KeyedShape, NumberedShape}
use Rattle.vr_space.specs.Part.{Shape, fits_at, owned_count, stage_of}
use Rattle.vr_space.specs.Room.{Lengths}
use Rattle.vr_space.specs.Numbered.{IsNumberedLength}
use Rattle.vr_log.specs.declared.record.LogRecord.TheVariants.{Before}
use Rattle.vr_history.specs.Case.{Case, new_record}
use Rattle.vr_history.specs.Change.{place_changed, record_held}
use Rattle.vr_history.specs.Names.{lock_names}
use Rattle.vr_history.specs.Opened.{base_of}
use Rattle.vr_history.specs.RefusedRoom.{free_areas, log_full}
use Rattle.vr_history.specs.Replies.{FillsKeyed, MayReply, before_room, done_by, fills_base}
use Rattle.vr_history.specs.Replies.{first_of, lacks_area}
use Rattle.vr_history.specs.State.{State, areas_of}
use Rattle.vr_history.specs.Step.{IsOfUnit, case_of, stand_refused}
use Rattle.vr_undo.specs.Records.{before_of, images_in}
use Rattle.vr_volume.specs.Committed.{IsCurrent}
use Rattle.vr_volume.specs.Laid.{shape_in}
use Rattle.vr_volume.specs.PutBack.{lengths_kept}
use Rattle.vr_answer.specs.Tried.{file_refusals, record_refusals}
use Rattle.vr_record_file.specs.Now.{FileNow, is_undoing, state_now}
use Rattle.vr_event.specs.Cause.{is_faulted}
use Rattle.vr_event.specs.Getting.{is_number}
use Rattle.vr_store.specs.Change.{NoOtherLogged, has_logged, need_with}
use Rattle.vr_store.specs.Room.{IsDueAt}
use Rattle.vr_store.specs.Store.{HasLength, IsStored, PartNow, StoreNow, part_among, shape_among}
use Rattle.vr_event.specs.Volume.{IsHeld, VolumeNow}
use Rattle.vr_event.specs.declared.act.Act.{Act}
use Rattle.vr_event.specs.declared.act.Act.TheVariants.{Again, Done}
use Rattle.vr_event.specs.declared.weighing.Weighed.{Weighed}
use Rattle.vr_event.specs.declared.weighing.Weighed.TheVariants.{Refused, Stage, Ready}

-- a PUT or an ERASE
abbrev pub IsChange : Request → Type 0
IsChange (Add on place bytes) = Unit {0}
IsChange (Update on bytes) = Unit {0}
IsChange (Erase on) = Unit {0}
IsChange (Get on find update integrity) = ⊥
IsChange (Point on find) = ⊥
IsChange (EndReq on) = ⊥
IsChange Commit = ⊥
IsChange Backout = ⊥

abbrev pub is_erase : Request → Bool
is_erase (Erase on) = true
is_erase (Add on place bytes) = false
is_erase (Update on bytes) = false
is_erase (Get on find update integrity) = false
is_erase (Point on find) = false
is_erase (EndReq on) = false
is_erase Commit = false
is_erase Backout = false

-- It may be entered: it is of its deck's current unit, which has not begun to undo, and nothing in
-- memory refuses it.
pub record IsChanging (opening : State) (file : FileNow) (unit : UnitOfRecovery) (request : Request)
    : Type 0 where
  pub current : IsOfUnit (state_now opening file) unit
  pub of_deck : (unit.deck == 0) ≡ false
  pub goes_on : is_undoing unit file.entries ≡ false
  pub unrefused : first_of (file_refusals (case_of file.geometry (state_now opening file) unit
      request)) ≡ None

-- ---- what fits a part

-- a record that a definition of a key-sequenced cluster allows at a place
pub record IsKeyedRecord (definition : Definition) (place bytes : List ℕ) : Type 0 where
  pub least : definition.key_offset + definition.key_length ≤ length bytes
  pub most : length bytes ≤ definition.maximum
  pub key : key_of definition bytes ≡ place

-- One that a definition of a relative or an entry-sequenced cluster allows, at a number in four
-- bytes: the records of a relative one all have one length.
pub record IsNumberedRecord (relative : Bool) (definition : Definition) (place bytes : List ℕ)
    : Type 0 where
  pub number : is_number relative place ≡ true
  pub whole : IsNumberedLength relative definition.maximum (length bytes)

-- by the kind
abbrev pub IsRecordFor : Kind → Definition → List ℕ → List ℕ → Type 0
IsRecordFor Keyed definition place bytes = IsKeyedRecord definition place bytes
IsRecordFor Entry definition place bytes = IsNumberedRecord false definition place bytes
IsRecordFor Relative definition place bytes = IsNumberedRecord true definition place bytes

abbrev pub IsRecordBy : Definition → List ℕ → List ℕ → Type 0
IsRecordBy definition place bytes = IsRecordFor definition.kind definition place bytes

-- a length that a record of a definition may have
abbrev pub is_length_for : Kind → ℕ → Definition → Bool
is_length_for Keyed n definition = nat_le (definition.key_offset + definition.key_length) n
    && nat_le n definition.maximum
is_length_for Entry n definition = nat_lt 0 n && nat_le n definition.maximum
is_length_for Relative n definition = nat_eq n definition.maximum

abbrev pub is_length_in : ℕ → Definition → Bool
is_length_in n definition = is_length_for definition.kind n definition

-- there is one
abbrev pub AllowsLength : Definition → Type 0
AllowsLength definition = (n : ℕ) × (is_length_in n definition ≡ true)

-- the parts are those of a catalog
abbrev pub AreLaidBy : Geometry → List CatEntry → List PartNow → Type 0
AreLaidBy geometry entries parts = (number : ℕ) → shape_among parts number
    ≡ shape_in geometry entries number

abbrev pub IsKeyedShape : Shape → Type 0
IsKeyedShape (KeyedShape part) = Unit {0}
IsKeyedShape (NumberedShape part) = ⊥

-- the part is laid, and the place is one of it
pub record HasPlace (parts : List PartNow) (part : ℕ) (place : List ℕ) : Type 0 where
  pub laid : part_among parts part ≢ None
  pub place_of : IfSome (shape_among parts part) (λ shape. IsPlaceOf shape place)
  pub short : length place < 2 ^ 16

abbrev pub FitsLength : List PartNow → ℕ → ℕ → Type 0
FitsLength parts part n = IfSome (shape_among parts part) (λ shape. IsLengthOf shape n)

abbrev pub FitsRecord : List PartNow → ℕ → List ℕ → List ℕ → Type 0
FitsRecord parts part place bytes =
    IfSome (shape_among parts part) (λ shape. IsRecordOf shape place bytes)

-- a record, or none, that may stand there
abbrev pub FitsItem : List PartNow → ℕ → List ℕ → Option (List ℕ) → Type 0
FitsItem parts part place item = IfSome item (λ (bytes : List ℕ).
    FitsRecord parts part place bytes × (length bytes < 2 ^ 32))

abbrev pub HasMetAt : List PartNow → ℕ → List ℕ → Type 0
HasMetAt parts part place =
    IfSome (part_among parts part) (λ (one : PartNow). HasMet one.known place)

-- ---- what a change comes to

-- A change names this place of this part, which isn't the catalog, and is of its deck's current unit.
pub record IsAskedAt (case : Case) (part : ℕ) (place : List ℕ) : Type 0 where
  pub current : IsOfUnit case.state case.unit
  pub not_catalog : (part == 0) ≡ false
  pub base : base_of case ≡ part
  pub place_is : place_changed case ≡ Some place

-- Nothing refuses a change at its place, where this record stands.
pub record IsReadyAt (case : Case) (place : List ℕ) (old : Option (List ℕ)) : Type 0 where
  pub current : IsOfUnit case.state case.unit
  pub not_catalog : (base_of case == 0) ≡ false
  pub place_is : place_changed case ≡ Some place
  pub old_is : old ≡ record_held case place
  pub unheld : first_of (record_refusals case) ≡ None
  pub unfull : log_full case ≡ None

-- so it is ready to be made, with its reply and the names that it locks
pub record IsReadyFor (case : Case) (place : List ℕ) (old : Option (List ℕ)) (reply : Reply)
    (names : List LockName) : Type 0 where
  pub at : IsReadyAt case place old
  pub reply_is : reply ≡ done_by case case.request
  pub names_are : names ≡ lock_names case case.request

abbrev pub MayRefuse : Case → Refusal → Type 0
MayRefuse case refusal = first_of (file_refusals case) ≡ None
    → MayReply case (replies.Refused refusal) × (stand_refused case.request refusal ≡ None)

-- by the record that stands there, by locks, and by the log it is refused so, or not at all
abbrev pub IsRefusedBy : Case → Option Refusal → Type 0
IsRefusedBy case None = (first_of (record_refusals case) ≡ None) × (log_full case ≡ None)
IsRefusedBy case (Some refusal) = MayRefuse case refusal

-- what it may come to
abbrev pub MayWeigh : Case → Weighed → Type 0
MayWeigh case (Refused refusal) = MayRefuse case refusal
MayWeigh case (Stage place n) = first_of (file_refusals case) ≡ None
    → first_of (before_room case) ≡ None
MayWeigh case (Ready place old reply names) = IsReadyFor case place old reply names

-- What a part that lacks room for a record needs, and what is free to it: the part is key-sequenced,
-- and lacks an area. Of one whose places are numbers the record file says it before.
abbrev pub LacksArea : Case → ℕ → ℕ → Type 0
LacksArea case need free = first_of (file_refusals case) ≡ None
    → (new_record case.request ≢ None) → FillsKeyed case × (NoSpace need free ≡ lacks_area)

-- The areas that are free, and those that the part owns, are as the state has them; a part that isn't
-- laid owns none.
pub record IsSpaceOf (store : StoreNow) (part : ℕ) (case : Case) : Type 0 where
  pub free : free_count store.space ≡ free_areas case
  pub owned : owned_count (record { 0 = part }) store.space ≡ areas_of case.state part
  pub unlaid : part_among store.parts part ≡ None
      → owned_count (record { 0 = part }) store.space ≡ 0

-- no stage of a split is left at the place, and the record, if any, has room there
pub record IsFitting (shape : Shape) (known : Known) (image : Image) (kept : Lengths)
    (place : List ℕ) (item : Option (List ℕ)) : Type 0 where
  pub no_stage : stage_of shape known image place ≡ None
  pub room : IfSome item (λ (bytes : List ℕ).
      IsTrue (fits_at shape known image kept place (length bytes)))

abbrev pub HasRoomAt : StoreNow → Image → ℕ → List ℕ → Option (List ℕ) → Type 0
HasRoomAt store image part place item =
    IfSome (part_among store.parts part) (λ (one : PartNow). IsFitting one.shape one.known image
    (lengths_kept (images_in store.undo) part) place item)

-- the stage is due, or the record has room
abbrev pub IsOpenTo : StoreNow → Image → ℕ → Request → Weighed → Type 0
IsOpenTo store image part request (Refused refusal) = Unit {0}
IsOpenTo store image part request (Stage place n) = IsDueAt store image part place n
IsOpenTo store image part request (Ready place old reply names) =
    HasRoomAt store image part place (new_record request)

-- a change that is ready fits its part, which has met its place, and in which some record may stand
pub record IsReadyIn (parts : List PartNow) (part : ℕ) (request : Request) (place : List ℕ)
    (old : Option (List ℕ)) : Type 0 where
  pub at : HasPlace parts part place
  pub new_fits : FitsItem parts part place (new_record request)
  pub old_fits : FitsItem parts part place old
  pub met : HasMetAt parts part place
  pub long : IfSome (shape_among parts part) HasLength

-- whether or not the device reports its contents; a refusal moves no file
abbrev pub FitsIn : List PartNow → ℕ → Request → Weighed → Type 0
FitsIn parts part request (Refused refusal) = stand_refused request refusal ≡ None
FitsIn parts part request (Stage place n) = HasPlace parts part place × FitsLength parts part n
FitsIn parts part request (Ready place old reply names) =
    IsReadyIn parts part request place old × (is_faulted reply ≡ false)

-- the reply that it comes to, where it is entered at once
abbrev pub reply_to : Weighed → Reply
reply_to (Refused refusal) = replies.Refused refusal
reply_to (Stage place n) = replies.Done 0 None None
reply_to (Ready place old reply names) = reply

-- ---- what has to hold before it is made

-- The store is the state's; the record that stands at the place is this one, no other unit has
-- logged the place, and the unit is its deck's current one.
pub record IsToMake (number : ℕ) (store : StoreNow) (unit : UnitOfRecovery) (part : PartNo)
    (place : List ℕ) (was : Option (List ℕ)) (state : State) (now : Seen) : Type 0 where
  pub stored : IsStored number store state now
  pub stands : option_map Standing was ≡ item_at (state.contents part.0) place
  pub alone : NoOtherLogged unit part place state
  pub current : IsCurrent state.numbers unit
  pub not_catalog : part.0 ≢ 0

-- it is so by some state
pub record HasToMake (store : StoreNow) (unit : UnitOfRecovery) (part : PartNo) (place : List ℕ)
    (was : Option (List ℕ)) (now : Seen) : Type 0 where
  pub number : ℕ
  pub state : State
  pub to : IsToMake number store unit part place was state now

-- what the change takes of the log
abbrev pub need_at : StoreNow → UnitOfRecovery → PartNo → List ℕ → Option (List ℕ) → ℕ
need_at store unit part place was = need_with
    (has_logged unit (before_of part place was) store.undo) store.log (Before unit part place was)

-- ---- an event

-- where an event is to be asked again
abbrev pub IfAgain : Act → Type 0 → Type 0
IfAgain Done fact = Unit {0}
IfAgain (Again given) fact = fact

-- A change that is asked for again may be refused for want of room in its place, where its data set
-- is key-sequenced: of one whose places are numbers the record file says when it lacks room.
abbrev pub MayLackRoom : State → FileNow → UnitOfRecovery → Request → Type 0
MayLackRoom opening file unit request =
    let case = case_of file.geometry (state_now opening file) unit request in
    (new_record request ≢ None) → IsTrue (fills_base case) → first_of (before_room case) ≡ None

-- by some opening the volume is held, and a change of it is ready
pub record HasReady {B : Type 0} (seen : B → Seen) (volume : VolumeNow B) (unit : UnitOfRecovery)
    (request : Request) (place : List ℕ) (old : Option (List ℕ)) (reply : Reply)
    (names : List LockName) : Type 0 where
  pub opening : State
  pub held : IsHeld seen opening volume
  pub ready : IsReadyFor (case_of volume.file.geometry (state_now opening volume.file) unit request)
      place old reply names
