-- What holds of a volume before a step of an edit of the catalog, and what the step leaves of it: the
-- words that its steps share. The rules are this project's own.
use Rattle.std.specs.Prelude.{◌≡◌, ◌≢◌, ◌⊎◌, ◌+◌, ◌-◌, ◌^◌, ◌<◌, ◌≤◌, ℕ, true, IfOk, IfSome, [], None}
use Rattle.std.specs.Prelude.{All, Contains, List, Option, Result, Some, length}
use Rattle.vr_types.specs.Faults.{Faults}
use Rattle.vr_types.specs.Image.{Image}
use Rattle.vr_types.specs.LogSpace.{IsLogFull, log_size}
use Rattle.vr_types.specs.Moments.{Guards}
use Rattle.vr_types.specs.Seen.{Seen}
use Rattle.vr_types.specs.declared.fault.DeviceFault.{DeviceFault}
use Rattle.vr_types.specs.declared.memory.OutOfMemory.{OutOfMemory}
use Rattle.vr_types.specs.declared.unit.Unit.{Unit as UnitOfRecovery}
use Rattle.vr_catalog.specs.declared.entry.CatEntry.{CatEntry}
use Rattle.vr_edits.specs.Edits.{MayEdit}
use Rattle.vr_edits.specs.declared.edit.CatalogEdit.{CatalogEdit}
use Rattle.vr_log.specs.Live.{live_in, used_by}
use Rattle.vr_history.specs.Merged.{last_stamp}
use Rattle.vr_history.specs.State.{State}
use Rattle.vr_record_file.specs.Now.{FileNow, has_deck, number_of, state_now}
use Rattle.vr_space.specs.declared.room.Room.{Room}
use Rattle.vr_space.specs.declared.room.Room.TheVariants.{NoSpace, Ready}
use Rattle.vr_volume.specs.Crashes.{RecoversTo}
use Rattle.vr_volume.specs.declared.setting.EntryChange.{EntryChange}
use Rattle.vr_store.specs.Parts.{MeetsNext, OnlyMet}
use Rattle.vr_store.specs.Room.{IsRoomAt}
use Rattle.vr_store.specs.Store.{PartNow, StoreNow, part_among}
use Rattle.vr_event.specs.CatalogEdit.{AreUnlocked, EditFaultsBy, EnteredEdit, IsEditEntered}
use Rattle.vr_event.specs.CatalogEdit.{IsKeptOut, IsLeftEditing, changes_of, entries_needed}
use Rattle.vr_event.specs.CatalogEdit.{log_for_edit}
use Rattle.vr_event.specs.Defining.{HasNoRoomAt, record_length, utility_unit}
use Rattle.vr_event.specs.PreparedEdit.{IsPreparedEdit}
use Rattle.vr_event.specs.Putting.{HasMetAt}
use Rattle.vr_event.specs.Volume.{IsHeld, IsWhole, VolumeNow}
use Rattle.vr_event.specs.declared.define.Define.{Define}
use Rattle.vr_event.specs.declared.define.Define.TheVariants as defines
use Rattle.vr_event.specs.declared.edit.Edit.{Edit}
use Rattle.vr_event.specs.declared.edit.Edit.TheVariants.{Again, Done, Fault, Full, Held, Live}
use Rattle.vr_event.specs.declared.edit.Edit.TheVariants.{NoRoom}
use Rattle.vr_event.specs.declared.prepared_edit.PreparedEdit.{PreparedEdit}

-- An event of an edit may begin: the volume is whole and goes on, there is room for its entries,
-- deck 0, and the log, have a further number, and the edit may be made of the catalog.
pub record MayEditNow {B : Type 0} (seen : B → Seen) (after : ℕ) (edit : CatalogEdit)
    (volume : VolumeNow B) : Type 0 where
  pub whole : IsWhole seen volume
  pub going : volume.file.stopped ≡ None
  pub room : entries_needed edit ≤ volume.file.room
  pub last : last_stamp 0 volume.file.entries < 2 ^ 63
  pub after_is : after < 2 ^ 63
  pub deck : has_deck 0 volume.file.numbers ≡ true
  pub number : number_of volume.file.numbers 0 < 2 ^ 32 - 1
  pub generation : volume.store.log.generation + 1 < 2 ^ 63
  pub edit_is : MayEdit volume.file.geometry volume.file.catalog edit

-- A prepared edit may be made, once its places were met: it may begin, no unit of recovery is live,
-- no lock is in its way, and the log has room for what is logged of it.
pub record IsEditReady {B : Type 0} (seen : B → Seen) (after : ℕ) (unit : UnitOfRecovery)
    (edit : CatalogEdit) (prepared : PreparedEdit) (volume : VolumeNow B) : Type 0 where
  pub may : MayEditNow seen after edit volume
  pub idle : live_in volume.store.log.records ≡ []
  pub unit_is : unit ≡ utility_unit volume.file
  pub prepared_is : IsPreparedEdit volume.number volume.file.catalog edit prepared
  pub unlocked : AreUnlocked volume.file unit (changes_of edit)
  pub log : used_by volume.store.log.records + log_for_edit edit ≤ log_size volume.file.geometry

-- What it came to, whether or not the device reports its contents.
pub record HasEditCome {B : Type 0} (seen : B → Seen) (after : ℕ) (unit : UnitOfRecovery)
    (line : ℕ) (edit : CatalogEdit) (result : Result Edit OutOfMemory) (old new : VolumeNow B)
    : Type 0 where
  pub whole : IsWhole seen new
  pub entered : IsEditEntered result old.number after unit line edit old.file new.file
  pub live : IfOk result (λ answer. answer ≡ Live → live_in old.store.log.records ≢ [])
  pub kept_out : IfOk result (λ answer. answer ≡ Held → IsKeptOut old.file unit edit)
  pub full : IfOk result (λ answer. answer ≡ Full → IsLogFull old.store.log.geometry
      (used_by old.store.log.records) (log_for_edit edit))
  pub number : new.number ≡ old.number
  pub generation : new.file.stopped ≡ None
      → new.store.log.generation ≤ old.store.log.generation + 1

-- And where it does: the volume is held as it was, and what each image of each moment recovers to.
pub record HasEditComeHeld {B : Type 0} (seen : B → Seen) (opening : State) (after : ℕ)
    (unit : UnitOfRecovery) (line : ℕ) (edit : CatalogEdit) (old new : VolumeNow B) : Type 0 where
  pub held : IsHeld seen opening new
  pub moments : Guards (seen old.blocks) (seen new.blocks) (IsLeftEditing
      old.store.log.geometry old.number opening after unit line edit old.file new.file)

-- ---- what a step answers

-- what a stage of the catalog comes to for an edit
abbrev pub edit_of : Define → Edit
edit_of (defines.Done area) = Done
edit_of defines.Again = Again
edit_of defines.NoArea = Full
edit_of defines.NoRoom = Full
edit_of defines.Held = Held
edit_of defines.Full = Full
edit_of (defines.Fault fault) = Fault fault

-- a stage of the catalog, or a fault
abbrev pub IsEditStage : Edit → Type 0
IsEditStage answer = (answer ≡ Again) ⊎ ((fault : DeviceFault) × (answer ≡ Fault fault))

-- no refusal by what is in memory
pub record IsLaterEdit (answer : Edit) : Type 0 where
  pub not_live : answer ≢ Live
  pub not_held : answer ≢ Held
  pub not_full : answer ≢ Full

-- ---- the places of its records

-- an event of the utilities may ask for room in the catalog, and do a stage of it
pub record MayOpen {B : Type 0} (seen : B → Seen) (after : ℕ) (volume : VolumeNow B) : Type 0 where
  pub whole : IsWhole seen volume
  pub going : volume.file.stopped ≡ None
  pub room : 0 < volume.file.room
  pub last : last_stamp 0 volume.file.entries < 2 ^ 64 - 2
  pub after_is : after < 2 ^ 64 - 2

-- what an edit comes to where the catalog has no space beside what stands at a place
abbrev pub IsWithoutSpace : Option (List ℕ) → Option Edit → Type 0
IsWithoutSpace None answer = answer ≡ Some NoRoom
IsWithoutSpace (Some before) answer = answer ≡ None

-- No stage comes first, and a record that is added has room; one that stands has.
abbrev pub IsOpenBy : Room → Option (List ℕ) → Type 0
IsOpenBy room None = room ≡ Ready
IsOpenBy room (Some before) =
    (room ≡ Ready) ⊎ ((need : ℕ) × (free : ℕ) × (room ≡ NoSpace need free))

-- nothing is in the way of a change
abbrev pub IsOpenAt : StoreNow → Image → EntryChange → Type 0
IsOpenAt store image change = (room : Room)
    × IsRoomAt store image 0 change.place record_length room × IsOpenBy room change.before

-- the places were met
abbrev pub AreMetAt : List PartNow → List EntryChange → Type 0
AreMetAt parts changes = All (λ (change : EntryChange). HasMetAt parts 0 change.place) changes

-- The catalog met at most this many places, and keeps what it meets of this many at least.
abbrev pub HasRoomAfter : ℕ → ℕ → List PartNow → Type 0
HasRoomAfter met count parts = IfSome (part_among parts 0) (λ (part : PartNow).
    (length part.known.met ≤ met) × (count ≤ part.known.most))

-- one of these changes adds a record for which the catalog has no room
abbrev pub LacksRoomForOne : List EntryChange → StoreNow → Image → Type 0
LacksRoomForOne changes store image = (change : EntryChange) × Contains changes change
    × (change.before ≡ None) × HasNoRoomAt store image change.place

-- Nothing is new but what the catalog met.
pub record HasMetOnly {B : Type 0} (seen : B → Seen) (old new : VolumeNow B) : Type 0 where
  pub file : new.file ≡ old.file
  pub only : OnlyMet 0 old.store.parts new.store.parts
  pub rest : new.store ≡ record old.store { parts = new.store.parts }

-- The catalog met a place, and nothing else is new.
pub record HasMetPlace {B : Type 0} (seen : B → Seen) (place : List ℕ) (old new : VolumeNow B)
    : Type 0 where
  pub file : new.file ≡ old.file
  pub only : OnlyMet 0 old.store.parts new.store.parts
  pub rest : new.store ≡ record old.store { parts = new.store.parts }
  pub next : MeetsNext 0 place old.store.parts new.store.parts

-- A place was met, and nothing is in the way there; or what is there answers: a stage of a split was
-- done or met a fault, or the record that is added has no room.
abbrev pub HasMetOrAnswered : ℕ → UnitOfRecovery → ℕ → Option Edit → ℕ → FileNow → FileNow → Type 0
HasMetOrAnswered after unit line None volume old new = new ≡ old
HasMetOrAnswered after unit line (Some answer) volume old new =
    (entry : CatEntry) (edit : CatalogEdit)
    → EnteredEdit answer volume after unit line edit old new

-- What was met, or answered, at the places of some changes, whether or not the device reports its
-- contents.
pub record HasOpened {B : Type 0} (seen : B → Seen) (after : ℕ) (unit : UnitOfRecovery) (line : ℕ)
    (result : Option Edit) (old new : VolumeNow B) : Type 0 where
  pub whole : IsWhole seen new
  pub entered : HasMetOrAnswered after unit line result old.number old.file new.file
  pub later : IfSome result IsLaterEdit
  pub number : new.number ≡ old.number
  pub log : result ≡ None → new.store.log ≡ old.store.log
  pub generation : new.store.log.generation ≡ old.store.log.generation

-- And where it does.
pub record HasOpenedHeld {B : Type 0} (seen : B → Seen) (opening : State) (old new : VolumeNow B)
    : Type 0 where
  pub held : IsHeld seen opening new
  pub moments : Guards (seen old.blocks) (seen new.blocks)
      (RecoversTo old.store.log.geometry old.number (state_now opening old.file) [])

-- no fault is met where the places are
abbrev pub HasOpeningFaults : Option Edit → Faults → Faults → Type 0
HasOpeningFaults None before now = now ≡ before
HasOpeningFaults (Some answer) before now = EditFaultsBy answer before now
