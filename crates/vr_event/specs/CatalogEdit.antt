-- An edit of the catalog as one event of a volume (Access Method Services Commands, ALTER, DELETE,
-- DEFINE ALTERNATEINDEX and DEFINE PATH): the records that it changes, what it enters in the record
-- file, by what it comes to, and what an image of a moment of it recovers to. That it is one event,
-- of a unit of recovery of its own, while no other is live, is this project's own rule.
use Rattle.std.specs.Prelude.{◌≡◌, ◌≢◌, ◌⊎◌, ◌+◌, ◌*◌, ◌<◌, ◌≤◌, ℕ, Contains, List, [], ◌∷◌}
use Rattle.std.specs.Prelude.{IfOk, Option, Some, None, Result, Ok, Err, length, map, true}
use Rattle.std.specs.List.{AllByRecursion}
use Rattle.std.specs.Option.{option_map}
use Rattle.vr_types.specs.Faults.{Faults}
use Rattle.vr_types.specs.Image.{Image}
use Rattle.vr_types.specs.Locks.{first_conflict}
use Rattle.vr_types.specs.LogSpace.{log_size}
use Rattle.vr_types.specs.Seen.{Seen}
use Rattle.vr_types.specs.declared.fault.DeviceFault.TheVariants.{Read, Write}
use Rattle.vr_types.specs.declared.geometry.Geometry.{Geometry}
use Rattle.vr_types.specs.declared.memory.OutOfMemory.{OutOfMemory}
use Rattle.vr_types.specs.declared.request.Find.TheVariants.{Equal}
use Rattle.vr_types.specs.declared.request.Request.{Request}
use Rattle.vr_types.specs.declared.request.Request.TheVariants.{Add as AddRecord, Commit, Get}
use Rattle.vr_types.specs.declared.unit.Integrity.TheVariants.{Nri}
use Rattle.vr_types.specs.declared.unit.Mode.TheVariants.{Exclusive}
use Rattle.vr_types.specs.declared.unit.Unit.{Unit as UnitOfRecovery}
use Rattle.vr_catalog.specs.Record.{spelling}
use Rattle.vr_catalog.specs.declared.entry.CatEntry.{CatEntry}
use Rattle.vr_edits.specs.Edits.{edited, entry_place}
use Rattle.vr_edits.specs.declared.edit.CatalogEdit.{CatalogEdit}
use Rattle.vr_edits.specs.declared.edit.CatalogEdit.TheVariants.{Add, Alter, Delete, Rename}
use Rattle.vr_log.specs.Live.{used_by}
use Rattle.vr_history.specs.State.{State}
use Rattle.vr_record_file.specs.CatalogEdit.{RecordChange, catalog_edited, change_asked}
use Rattle.vr_record_file.specs.CatalogEdit.{failed_to_edit, name_of, need_to_edit}
use Rattle.vr_record_file.specs.Now.{FileNow, faulted, state_now}
use Rattle.vr_record_file.specs.declared.entry_step.EntryStep.{EntryStep}
use Rattle.vr_record_file.specs.declared.entry_step.EntryStep.TheVariants as steps
use Rattle.vr_volume.specs.Crashes.{RecoversTo}
use Rattle.vr_event.specs.Defining.{HasNoRoomAt, HasStaged, catalog_file, utility_unit}
use Rattle.vr_event.specs.Volume.{VolumeNow}
use Rattle.vr_event.specs.declared.edit.Edit.{Edit}
use Rattle.vr_event.specs.declared.edit.Edit.TheVariants.{Again, Done, Fault, Full, Held, Live}
use Rattle.vr_event.specs.declared.edit.Edit.TheVariants.{NoRoom}

-- ---- the records that it changes

-- the record of an entry is replaced by that of one of the same name, or taken away,
abbrev pub record_changed : CatEntry → Option CatEntry → RecordChange
record_changed entry to = record {
  place = entry_place entry;
  old = Some (spelling entry);
  new = option_map spelling to;
}

-- or added
abbrev pub record_added : CatEntry → RecordChange
record_added new = record { place = entry_place new; old = None; new = Some (spelling new) }

abbrev pub record_gone : CatEntry → RecordChange
record_gone entry = record_changed entry None

abbrev pub changes_of : CatalogEdit → List RecordChange
changes_of (Alter entry new) = record_changed entry (Some new) ∷ []
changes_of (Rename entry new) = record_gone entry ∷ record_added new ∷ []
changes_of (Delete gone) = map record_gone gone
changes_of (Add new) = record_added new ∷ []

-- the entry whose record needs room of its own, where there is one
abbrev pub entry_added : CatalogEdit → Option CatEntry
entry_added (Alter entry new) = None
entry_added (Rename entry new) = Some new
entry_added (Delete gone) = None
entry_added (Add new) = Some new

-- The most entries that one event of it adds: a GET and what changes it for each record, the COMMIT,
-- and the fault of a write.
abbrev pub entries_needed : CatalogEdit → ℕ
entries_needed edit = 2 * length (changes_of edit) + 2

-- the bytes of the log that it takes: the before-image of each record, and the end of its unit
abbrev pub log_for_edit : CatalogEdit → ℕ
log_for_edit edit = need_to_edit (changes_of edit)

-- ---- what it enters

abbrev pub get_of : ℕ → List ℕ → Request
get_of volume place = Get (catalog_file volume) (Equal place) true Nri

-- A record that stood is got for update, and then replaced or erased; one that is new is added.
abbrev pub step_by : ℕ → List ℕ → Option (List ℕ) → Option (List ℕ) → EntryStep
step_by volume place (Some before) new =
    steps.Change (get_of volume place)
    (change_asked (catalog_file volume) new) place place before
step_by volume place None (Some bytes) =
    steps.Add (AddRecord (catalog_file volume) None bytes) place
step_by volume place None None = steps.Add Commit place

abbrev pub step_for : ℕ → RecordChange → EntryStep
step_for volume change = step_by volume change.place change.old change.new

abbrev pub steps_of : ℕ → CatalogEdit → List EntryStep
steps_of volume edit = map (step_for volume) (changes_of edit)

-- the record file once the edit is made, on this line
abbrev pub file_edited : ℕ → ℕ → UnitOfRecovery → ℕ → CatalogEdit → FileNow → FileNow
file_edited volume after unit line edit file =
    catalog_edited after unit line (steps_of volume edit) Commit (edited edit file.catalog) file

-- and where a write failed: the COMMIT of the unit is in doubt, and the fault stops the volume
abbrev pub file_edit_in_doubt : ℕ → ℕ → UnitOfRecovery → ℕ → CatalogEdit → FileNow → FileNow
file_edit_in_doubt volume after unit line edit file =
    failed_to_edit after unit line (steps_of volume edit) Commit (edited edit file.catalog) file

-- By what it came to; where it is refused, nothing. Where a write failed while nothing of the edit
-- was done, the fault alone, which stops the volume; else the unit is in doubt.
abbrev pub EnteredEdit : Edit → ℕ → ℕ → UnitOfRecovery → ℕ → CatalogEdit → FileNow → FileNow
    → Type 0
EnteredEdit Done volume after unit line edit old new =
    new ≡ file_edited volume after unit line edit old
EnteredEdit Again volume after unit line edit old new = HasStaged after unit line old new
EnteredEdit Held volume after unit line edit old new = new ≡ old
EnteredEdit Live volume after unit line edit old new = new ≡ old
EnteredEdit Full volume after unit line edit old new = new ≡ old
EnteredEdit NoRoom volume after unit line edit old new = new ≡ old
EnteredEdit (Fault Read) volume after unit line edit old new = new ≡ old
EnteredEdit (Fault Write) volume after unit line edit old new =
    (new ≡ faulted after unit line old)
    ⊎ (new ≡ file_edit_in_doubt volume after unit line edit old)

-- out of memory is refused, too
abbrev pub IsEditEntered : Result Edit OutOfMemory → ℕ → ℕ → UnitOfRecovery → ℕ → CatalogEdit
    → FileNow → FileNow → Type 0
IsEditEntered (Ok answer) volume after unit line edit old new =
    EnteredEdit answer volume after unit line edit old new
IsEditEntered (Err why) volume after unit line edit old new = new ≡ old

-- ---- when it may come to what it comes to

-- no lock of another unit is on the place of any of its records
abbrev pub AreUnlocked : FileNow → UnitOfRecovery → List RecordChange → Type 0
AreUnlocked file unit changes = AllByRecursion (λ (change : RecordChange).
    first_conflict file.locks unit Exclusive (name_of change) ≡ None) changes

-- one is
abbrev pub IsKeptOut : FileNow → UnitOfRecovery → CatalogEdit → Type 0
IsKeptOut file unit edit = (change : RecordChange) × Contains (changes_of edit) change
    × (first_conflict file.locks unit Exclusive (name_of change) ≢ None)

-- There is no room in the catalog for the record of the entry that it adds, and nothing that is
-- tried before is in the way: neither a lock on a place nor the log.
pub record LacksRoomForEdit {B : Type 0} (seen : B → Seen) (edit : CatalogEdit)
    (old : VolumeNow B) : Type 0 where
  pub entry : CatEntry
  pub is : entry_added edit ≡ Some entry
  pub no_room : HasNoRoomAt old.store (seen old.blocks).cur (entry_place entry)
  pub unlocked : AreUnlocked old.file (utility_unit old.file) (changes_of edit)
  pub log : used_by old.store.log.records + log_for_edit edit ≤ log_size old.file.geometry

-- where that is the answer
abbrev pub LacksRoomWhereEdited : {B : Type 0} → (B → Seen) → CatalogEdit
    → Result Edit OutOfMemory → VolumeNow B → Type 0
LacksRoomWhereEdited seen edit result old =
    IfOk result (λ answer. answer ≡ NoRoom → LacksRoomForEdit seen edit old)

-- the counts of faults: none rose, or that of the fault that it is; a fault of a read comes before
-- any write fails
abbrev pub EditFaultsBy : Edit → Faults → Faults → Type 0
EditFaultsBy Done before now = now ≡ before
EditFaultsBy Again before now = now ≡ before
EditFaultsBy Held before now = now ≡ before
EditFaultsBy Live before now = now ≡ before
EditFaultsBy Full before now = now ≡ before
EditFaultsBy NoRoom before now = now ≡ before
EditFaultsBy (Fault Read) before now =
    (before.reads < now.reads) × (now.writes ≡ before.writes)
EditFaultsBy (Fault Write) before now =
    (before.reads ≤ now.reads) × (before.writes < now.writes)

abbrev pub HasEditFaults : Faults → Faults → Result Edit OutOfMemory → Type 0
HasEditFaults before now (Ok answer) = EditFaultsBy answer before now
HasEditFaults before now (Err why) = now ≡ before

-- ---- what an image recovers to

-- the records were changed, and their unit ended, or is in doubt
abbrev pub HasEdited : ℕ → ℕ → UnitOfRecovery → ℕ → CatalogEdit → FileNow → FileNow → Type 0
HasEdited volume after unit line edit old new =
    (new ≡ file_edited volume after unit line edit old)
    ⊎ (new ≡ file_edit_in_doubt volume after unit line edit old)

-- What is committed in the state before the event; or, as it makes the edit, or fails to, what is
-- in the state once it is made. What a part had goes with the end of the unit, so of a unit in
-- doubt, too, that state has it.
abbrev pub IsLeftEditing : Geometry → ℕ → State → ℕ → UnitOfRecovery → ℕ → CatalogEdit → FileNow
    → FileNow → Image → Type 0
IsLeftEditing geometry volume opening after unit line edit old new image =
    RecoversTo geometry volume (state_now opening old) [] image
    ⊎ (HasEdited volume after unit line edit old new
    × RecoversTo geometry volume
    (state_now opening (file_edited volume after unit line edit old)) [] image)
