-- A volume between two events: what it has in memory is what its history gives from its opening, and
-- its blocks are at rest by that state. The rules are this project's own.
use Rattle.std.specs.Prelude.{◌≡◌, ◌≤◌, ◌+◌, ℕ, List, Option, None}
use Rattle.std.specs.List.{AllByRecursion}
use Rattle.std.specs.List.Sorted.{IsPermutation}
use Rattle.vr_types.specs.Seen.{Seen}
use Rattle.vr_types.specs.Space.{free_count}
use Rattle.vr_types.specs.declared.geometry.Geometry.{Geometry}
use Rattle.vr_types.specs.declared.unit.PartNo.{PartNo}
use Rattle.vr_space.specs.Part.{owned_count}
use Rattle.vr_catalog.specs.declared.entry.CatEntry.{CatEntry}
use Rattle.vr_edits.specs.Edits.{IsServedEntry}
use Rattle.vr_history.specs.RefusedRoom.{free_areas}
use Rattle.vr_history.specs.State.{State}
use Rattle.vr_history.specs.Step.{case_of}
use Rattle.vr_types.specs.declared.request.Request.TheVariants.{Commit}
use Rattle.vr_record_file.specs.Now.{FileNow, IsStateOf, state_now}
use Rattle.vr_volume.specs.Laid.{shape_in}
use Rattle.vr_store.specs.Store.{IsSet, IsStored, StoreNow, shape_among}
use Rattle.vr_event.specs.Opening.{owned_in}

-- all entries are served: clusters whose longest records have room in an interval, alternate
-- indexes that aren't built, and paths
abbrev pub AreServed : Geometry → List CatEntry → Type 0
AreServed geometry entries = AllByRecursion (IsServedEntry geometry) entries

-- a part that the catalog doesn't lay owns no area
abbrev pub OwnLaid : Geometry → List CatEntry → List (Option PartNo) → Type 0
OwnLaid geometry entries space = (part : PartNo) → shape_in geometry entries part.0 ≡ None
    → owned_count part space ≡ 0

-- what a volume is seen as
pub record VolumeNow (B : Type 0) : Type 0 where
  pub blocks : B
  pub number : ℕ
  pub store : StoreNow
  pub file : FileNow

-- Whether or not the device reports its contents: all entries are served, and as
-- long as no write failed, the store is set, and its parts are those of the catalog. Of a volume that
-- stopped no call looks at the store.
pub record IsWhole {B : Type 0} (seen : B → Seen) (volume : VolumeNow B) : Type 0 where
  pub served : AreServed volume.file.geometry volume.file.catalog
  pub geometry : volume.file.stopped ≡ None
      → volume.store.log.geometry ≡ volume.file.geometry
  pub laid : volume.file.stopped ≡ None → (part : ℕ) → shape_among volume.store.parts part
      ≡ shape_in volume.file.geometry volume.file.catalog part
  pub set : volume.file.stopped ≡ None → IsSet volume.store (seen volume.blocks)

-- Where it does: the history is legal from this opening and gives what is in memory, the areas that
-- parts have among it, and, as long as no write failed, the volume is at rest by the state that it
-- gives.
pub record IsHeld {B : Type 0} (seen : B → Seen) (opening : State) (volume : VolumeNow B) : Type 0
  where
    pub file : IsStateOf opening volume.file
    pub free : free_count volume.store.space
        ≡ free_areas (case_of volume.file.geometry (state_now opening volume.file)
        (record { deck = 0; number = 0 }) Commit)
    pub owned : IsPermutation (owned_in volume.store.space) (state_now opening volume.file).owned
    pub unlaid : volume.file.stopped ≡ None
        → OwnLaid volume.file.geometry volume.file.catalog volume.store.space
    pub stored : volume.file.stopped ≡ None → IsStored volume.number volume.store
        (state_now opening volume.file) (seen volume.blocks)

-- it is so from some opening
pub record Holds {B : Type 0} (seen : B → Seen) (volume : VolumeNow B) : Type 0 where
  pub opening : State
  pub held : IsHeld seen opening volume

-- What is known of a volume once a write has failed, before that is entered: its history, the areas
-- that no part has, and those that parts have.
pub record IsFileHeld {B : Type 0} (opening : State) (volume : VolumeNow B) : Type 0 where
  pub file : IsStateOf opening volume.file
  pub free : free_count volume.store.space
      ≡ free_areas (case_of volume.file.geometry (state_now opening volume.file)
      (record { deck = 0; number = 0 }) Commit)
  pub owned : IsPermutation (owned_in volume.store.space) (state_now opening volume.file).owned
