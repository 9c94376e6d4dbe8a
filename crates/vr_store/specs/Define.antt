-- What DEFINE of a cluster makes of a store (DFSMS Access Method Services Commands, DEFINE CLUSTER):
-- the catalog has a record more, and a part more is laid, which has no record yet. That both are one
-- event, by a unit of recovery that ends in it, is this project's own rule.
use Rattle.std.specs.Prelude.{◌≡◌, ◌≢◌, ◌++◌, ◌∷◌, [], ◌==◌, ℕ, All, Bool, IsTrue, cond}
use Rattle.std.specs.Prelude.{List, Some, None, Option, Result, IsErrOf, OnOk, slice_set}
use Rattle.vr_types.specs.LogSpace.{IsLogFull}
use Rattle.vr_types.specs.Regions.{Touches}
use Rattle.vr_types.specs.Seen.{Seen}
use Rattle.vr_types.specs.declared.geometry.Geometry.{Geometry}
use Rattle.vr_types.specs.declared.unit.AreaNo.{AreaNo}
use Rattle.vr_types.specs.declared.unit.PartNo.{PartNo}
use Rattle.vr_types.specs.declared.unit.Unit.{Unit as UnitOfRecovery}
use Rattle.vr_catalog.specs.declared.definition.Definition.{Definition}
use Rattle.vr_space.specs.Part.{CanSet, HasKeptRoom, Knows, Shape}
use Rattle.vr_attach.specs.Laid.{shape_by_kind}
use Rattle.vr_attach.specs.Owning.{owner_of}
use Rattle.vr_log.specs.Live.{live_in, need_of, used_by}
use Rattle.vr_log.specs.LogNow.{LogNow}
use Rattle.vr_log.specs.Standing.{LogStands}
use Rattle.vr_log.specs.declared.record.LogRecord.{LogRecord}
use Rattle.vr_log.specs.declared.record.LogRecord.TheVariants as records
use Rattle.vr_history.specs.State.{Logged, State}
use Rattle.vr_undo.specs.Records.{images_in}
use Rattle.vr_volume.specs.Defining.{CanDefine, IsDefinedIn, IsStarted}
use Rattle.vr_volume.specs.PutBack.{lengths_kept}
use Rattle.vr_volume.specs.Rests.{RestsPastLog}
use Rattle.vr_store.specs.Parts.{OnlyMet, but_met, with_part}
use Rattle.vr_store.specs.Store.{IsStored, PartNow, StoreNow, owners_of, part_among, shape_among}
use Rattle.vr_store.specs.declared.no.DefineNo.{DefineNo}
use Rattle.vr_store.specs.declared.no.DefineNo.TheVariants.{Full}

-- ---- what is logged

-- the record of the log: nothing stood at the place of the catalog
abbrev pub entry_before : UnitOfRecovery → List ℕ → LogRecord
entry_before unit place = records.Before unit (record { 0 = 0 }) place None

-- what it takes of the log
abbrev pub entry_need : LogNow → UnitOfRecovery → List ℕ → ℕ
entry_need log unit place = need_of (live_in log.records) (entry_before unit place)

-- The answer is that the log is full only where it has no room for that, and then it is never done.
pub record IsFullFor {T : Type 0} (log : LogNow) (need : ℕ) (result : Result T DefineNo) : Type 0
  where
    pub only : IsErrOf result Full → IsLogFull log.geometry (used_by log.records) need
    pub never : IsLogFull log.geometry (used_by log.records) need → OnOk result ⊥

-- ---- by the states

-- no unit that is live has logged a place of the catalog
abbrev pub HasNoneOfCatalog : State → Type 0
HasNoneOfCatalog state = All (λ (logged : Logged). logged.part ≢ 0) state.logged

-- The store is that of a state to which the record may be added; it lays a part of this definition
-- whose first area is this one. Then the record is there, and the unit has ended.
pub record IsDefining (number : ℕ) (store : StoreNow) (unit : UnitOfRecovery)
    (place bytes : List ℕ) (part : PartNo) (area : AreaNo) (definition : Definition)
    (old new : State) (now : Seen) : Type 0 where
  pub stored : IsStored number store old now
  pub shape : Shape
  pub laid : shape_by_kind store.log.geometry part.0 area.0 definition definition.kind ≡ Some shape
  pub can : CanDefine store.log.geometry store.log unit shape place bytes old
  pub unlogged : HasNoneOfCatalog old
  pub defined : IsDefinedIn unit place bytes (entry_need store.log unit place) old new

-- ---- the parts

-- The new part comes last, with no split under way, and its chain is that area alone. Of the others
-- the catalog alone has something new: what it met.
pub record HasNewPart (geometry : Geometry) (part : PartNo) (area : AreaNo)
    (definition : Definition) (old new : List PartNow) : Type 0 where
  pub before : List PartNow
  pub met : OnlyMet 0 old before
  pub added : PartNow
  pub is : new ≡ before ++ added ∷ []
  pub number : added.number ≡ part
  pub laid : shape_by_kind geometry part.0 area.0 definition definition.kind ≡ Some added.shape
  pub split : added.known.split ≡ None
  pub moves : added.known.move ≡ None
  pub areas : added.known.areas ≡ area.0 ∷ []

-- the shapes of the parts: the new one has that of its definition
abbrev pub HasNewShape : Geometry → PartNo → AreaNo → Definition → List PartNow → List PartNow
    → Type 0
HasNewShape geometry part area definition old new = (number : ℕ) → shape_among new number
    ≡ cond (number == part.0) (shape_by_kind geometry part.0 area.0 definition definition.kind)
    (shape_among old number)

-- ---- on the way

-- the blocks of the areas of this part alone are touched
abbrev pub TouchesAreasOf : PartNo → Geometry → List (Option PartNo) → Seen → Seen → Type 0
TouchesAreasOf part geometry areas old new =
    Touches (λ n. owner_of geometry areas n ≡ Some part.0) (λ image. Unit {0}) old new

-- A part of the definition was added to the store, on the area that was free, and nothing else of the
-- store is new. Where the device reports its contents, it is in order there, without an item.
pub record IsStartedIn (tells : Bool) (part : PartNo) (area : AreaNo) (definition : Definition)
    (old new : StoreNow) (now : Seen) : Type 0 where
  pub added : PartNow
  pub is : new ≡ record old {
    parts = old.parts ++ added ∷ [];
    space = slice_set old.space area.0 (Some part);
  }
  pub number : added.number ≡ part
  pub laid : shape_by_kind old.log.geometry part.0 area.0 definition definition.kind
      ≡ Some added.shape
  pub split : added.known.split ≡ None
  pub moves : added.known.move ≡ None
  pub areas : added.known.areas ≡ area.0 ∷ []
  pub started : IsTrue tells → IsStarted added.shape (owners_of new) added.known now

-- Without the last of its parts, which has no item, the store is the old state's; the record that lays
-- that part may be added, and makes the new state of it.
pub record IsBegun (number : ℕ) (store : StoreNow) (unit : UnitOfRecovery) (place bytes : List ℕ)
    (old new : State) (now : Seen) : Type 0 where
  pub before : List PartNow
  pub added : PartNow
  pub is : store.parts ≡ before ++ added ∷ []
  pub stored : IsStored number (record store { parts = before }) old now
  pub started : IsStarted added.shape (owners_of store) added.known now
  pub can : CanDefine store.log.geometry store.log unit added.shape place bytes old
  pub unlogged : HasNoneOfCatalog old
  pub defined : IsDefinedIn unit place bytes (entry_need store.log unit place) old new

-- the catalog may be given the record, and the log one more
pub record IsEntryReady (store : StoreNow) (place bytes : List ℕ) (now : Seen) (catalog : PartNow)
    : Type 0 where
  pub log : LogStands store.log now
  pub rests : RestsPastLog store.log.geometry catalog.shape catalog.known now
  pub room : HasKeptRoom catalog.shape (lengths_kept (images_in store.undo) 0) now
  pub knows : Knows catalog.shape catalog.known now
  pub can : CanSet catalog.shape catalog.known now.cur (lengths_kept (images_in store.undo) 0) place
      (Some bytes)

-- a call has worked on the part of this number, and left its splits under way and its areas
pub record IsMetAt (number : ℕ) (old new : List PartNow) : Type 0 where
  pub before : PartNow
  pub after : PartNow
  pub found : part_among old number ≡ Some before
  pub is : new ≡ with_part number after old
  pub same : but_met after ≡ but_met before
