-- DEFINE of a cluster as one event of a volume (Access Method Services Commands, DEFINE CLUSTER):
-- the entries that it may be of, what it enters in the record file, by what it comes to, and what
-- an image of a moment of it recovers to. That a definition is one event, of a unit of recovery of
-- its own, is this project's own rule.
use Rattle.std.specs.Prelude.{◌≡◌, ◌⊎◌, ◌+◌, ◌<◌, ◌≤◌, ℕ, Bool, true, List, [], ◌∷◌, IsTrue}
use Rattle.std.specs.Prelude.{Option, Some, None, Result, Ok, Err}
use Rattle.vr_types.specs.Faults.{Faults}
use Rattle.vr_types.specs.Geometry.{area_count}
use Rattle.vr_types.specs.Image.{Image}
use Rattle.vr_types.specs.declared.fault.DeviceFault.TheVariants.{Read, Write}
use Rattle.vr_types.specs.declared.geometry.Geometry.{Geometry}
use Rattle.vr_types.specs.declared.memory.OutOfMemory.{OutOfMemory}
use Rattle.vr_types.specs.declared.request.FileRef.{FileRef}
use Rattle.vr_types.specs.declared.request.Request.{Request}
use Rattle.vr_types.specs.declared.request.Request.TheVariants.{Add, Commit}
use Rattle.vr_types.specs.declared.unit.AreaNo.{AreaNo}
use Rattle.vr_types.specs.declared.unit.Kind.TheVariants.{Keyed}
use Rattle.vr_types.specs.declared.unit.PartNo.{PartNo}
use Rattle.vr_types.specs.declared.unit.Unit.{Unit as UnitOfRecovery}
use Rattle.vr_catalog.specs.Catalog.{entry_named, entry_with_part}
use Rattle.vr_catalog.specs.Definition.{catalog_definition, key_of}
use Rattle.vr_catalog.specs.Entry.{is_entry}
use Rattle.vr_catalog.specs.Record.{spelling}
use Rattle.vr_catalog.specs.declared.entry.CatEntry.{CatEntry}
use Rattle.vr_catalog.specs.declared.entry.EntryKind.TheVariants.{Cluster}
use Rattle.vr_attach.specs.CatalogRules.{has_sizes_by}
use Rattle.vr_edits.specs.Edits.{with_entry}
use Rattle.vr_space.specs.declared.room.Room.TheVariants as answers
use Rattle.vr_history.specs.State.{State}
use Rattle.vr_record_file.specs.Defining.{defined, failed_to_define}
use Rattle.vr_record_file.specs.Now.{FileNow, faulted, number_of, state_now}
use Rattle.vr_volume.specs.Crashes.{RecoversTo}
use Rattle.vr_store.specs.Room.{IsRoomAt}
use Rattle.vr_store.specs.Store.{StoreNow}
use Rattle.vr_event.specs.Staging.{stage_entered}
use Rattle.vr_event.specs.declared.define.Define.{Define}
use Rattle.vr_event.specs.declared.define.Define.TheVariants.{Again, Done, Fault, Full, Held}
use Rattle.vr_event.specs.declared.define.Define.TheVariants.{NoArea, NoRoom}

-- ---- the record of a cluster

-- the catalog is part 0
abbrev pub catalog_part : PartNo
catalog_part = record { 0 = 0 }

-- the file by which the utilities are on the catalog of a volume
abbrev pub catalog_file : ℕ → FileRef
catalog_file volume = record {
  volume = volume;
  slot = 0;
  base = catalog_part;
  path = None;
  kind = Keyed;
  known = true;
}

-- the entry of a cluster with its first area
abbrev pub entry_with_area : CatEntry → AreaNo → CatEntry
entry_with_area entry area = record entry { first_area = Some area }

-- the place of its record in the catalog, which begins with its name
abbrev pub entry_place : CatEntry → List ℕ
entry_place entry = key_of catalog_definition (spelling entry)

-- how long each record of the catalog is
abbrev pub record_length : ℕ
record_length = catalog_definition.maximum

-- the request that adds its record to the catalog of a volume
abbrev pub entry_add : ℕ → CatEntry → Request
entry_add volume entry = Add (catalog_file volume) None (spelling entry)

-- the catalog with one entry more
abbrev pub with_cluster : CatEntry → List CatEntry → List CatEntry
with_cluster new entries = with_entry new entries

-- A cluster that a catalog doesn't have yet, neither by name nor by part, and that has no area yet:
-- with one, a catalog may have its entry, and its sizes are those that DEFINE allows. Of a spanned
-- one, too, the longest record has room in an interval.
pub record IsNewCluster (geometry : Geometry) (entries : List CatEntry) (entry : CatEntry) : Type 0
  where
    pub cluster : entry.entry_kind ≡ Cluster
    pub no_area : entry.first_area ≡ None
    pub entry_is : IsTrue (is_entry entry)
    pub name : entry_named entries entry.name ≡ None
    pub part : entry_with_part entries entry.part.0 ≡ None
    pub sizes : (area : AreaNo)
        → IsTrue (has_sizes_by Cluster geometry (entry_with_area entry area) None)
    pub plain : IsTrue entry.spanned → entry.maximum + 7 ≤ geometry.size

-- ---- what it enters

-- the unit of recovery that defines: the current one of deck 0, that of the utilities
abbrev pub utility_unit : FileNow → UnitOfRecovery
utility_unit file = record { deck = 0; number = number_of file.numbers 0 }

-- the record file once the cluster is defined with this first area, on this line
abbrev pub file_defined : ℕ → ℕ → UnitOfRecovery → ℕ → CatEntry → AreaNo → FileNow → FileNow
file_defined volume after unit line entry area file =
    let new = entry_with_area entry area in
    defined after unit line entry.part area (entry_add volume new) (entry_place new) Commit
    (with_cluster new file.catalog) file

-- and where a write failed: the COMMIT of the unit is in doubt, and the fault stops the volume
abbrev pub file_in_doubt : ℕ → ℕ → UnitOfRecovery → ℕ → CatEntry → AreaNo → FileNow → FileNow
file_in_doubt volume after unit line entry area file =
    let new = entry_with_area entry area in
    failed_to_define after unit line entry.part area (entry_add volume new) (entry_place new) Commit
    (with_cluster new file.catalog) file

-- a stage of the catalog was done, which may have split an interval or taken an area
abbrev pub HasStaged : ℕ → UnitOfRecovery → ℕ → FileNow → FileNow → Type 0
HasStaged after unit line old new = (split : Bool) × (taken : Option AreaNo)
    × (new ≡ stage_entered after unit line catalog_part split taken old)

-- By what it came to; where it is refused, nothing. Where a write failed while nothing of the
-- definition was done, the fault alone, which stops the volume; else the unit is in doubt, with one
-- of the volume's areas.
abbrev pub EnteredBy : Define → ℕ → ℕ → UnitOfRecovery → ℕ → CatEntry → FileNow → FileNow → Type 0
EnteredBy (Done area) volume after unit line entry old new =
    new ≡ file_defined volume after unit line entry area old
EnteredBy Again volume after unit line entry old new = HasStaged after unit line old new
EnteredBy NoArea volume after unit line entry old new = new ≡ old
EnteredBy NoRoom volume after unit line entry old new = new ≡ old
EnteredBy Held volume after unit line entry old new = new ≡ old
EnteredBy Full volume after unit line entry old new = new ≡ old
EnteredBy (Fault Read) volume after unit line entry old new = new ≡ old
EnteredBy (Fault Write) volume after unit line entry old new =
    (new ≡ faulted after unit line old)
    ⊎ ((area : AreaNo) × (new ≡ file_in_doubt volume after unit line entry area old)
    × (area.0 < area_count old.geometry))

-- out of memory is refused, too
abbrev pub IsDefineEntered : Result Define OutOfMemory → ℕ → ℕ → UnitOfRecovery → ℕ → CatEntry
    → FileNow → FileNow → Type 0
IsDefineEntered (Ok define) volume after unit line entry old new =
    EnteredBy define volume after unit line entry old new
IsDefineEntered (Err why) volume after unit line entry old new = new ≡ old

-- ---- when it may come to what it comes to

-- the counts of faults: none rose, or that of the fault that it is; a fault of a read comes before
-- any write fails
abbrev pub FaultsBy : Define → Faults → Faults → Type 0
FaultsBy (Done area) before now = now ≡ before
FaultsBy Again before now = now ≡ before
FaultsBy NoArea before now = now ≡ before
FaultsBy NoRoom before now = now ≡ before
FaultsBy Held before now = now ≡ before
FaultsBy Full before now = now ≡ before
FaultsBy (Fault Read) before now = (before.reads < now.reads) × (now.writes ≡ before.writes)
FaultsBy (Fault Write) before now = (before.reads ≤ now.reads) × (before.writes < now.writes)

abbrev pub HasDefineFaults : Faults → Faults → Result Define OutOfMemory → Type 0
HasDefineFaults before now (Ok define) = FaultsBy define before now
HasDefineFaults before now (Err why) = now ≡ before

-- the catalog has no room for a record at this place, and can take no area for it
abbrev pub HasNoRoomAt : StoreNow → Image → List ℕ → Type 0
HasNoRoomAt store image place = (need : ℕ) × (free : ℕ)
    × IsRoomAt store image 0 place record_length (answers.NoSpace need free)

-- ---- what an image recovers to

-- the record was added to the catalog, and its unit ended, or is in doubt
abbrev pub HasDefined : ℕ → ℕ → UnitOfRecovery → ℕ → CatEntry → FileNow → FileNow → Type 0
HasDefined volume after unit line entry old new = (area : AreaNo)
    × ((new ≡ file_defined volume after unit line entry area old)
    ⊎ (new ≡ file_in_doubt volume after unit line entry area old))

-- What is committed in the state before the event; or, as it defines the cluster, or fails to, what
-- is in the state after it where its unit counts.
abbrev pub IsLeftDefining : Geometry → ℕ → State → ℕ → UnitOfRecovery → ℕ → CatEntry → FileNow
    → FileNow → Image → Type 0
IsLeftDefining geometry volume opening after unit line entry old new image =
    RecoversTo geometry volume (state_now opening old) [] image
    ⊎ (HasDefined volume after unit line entry old new
    × RecoversTo geometry volume (state_now opening new) (unit ∷ []) image)
