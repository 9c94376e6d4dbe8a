-- What a stage of a part leaves to be entered: the area that it took, or that it split an interval.
-- The rules are this project's own.
use Rattle.std.specs.Prelude.{◌≡◌, ◌≢◌, ◌⊎◌, ℕ, Bool, true, false, List, Option, Some, None, length}
use Rattle.std.specs.Prelude.{slice_set}
use Rattle.std.specs.List.Sorted.{IsPermutation}
use Rattle.vr_types.specs.Geometry.{area_count}
use Rattle.vr_types.specs.Seen.{Seen}
use Rattle.vr_types.specs.Space.{free_count, least_free}
use Rattle.vr_types.specs.declared.request.Request.TheVariants.{Commit}
use Rattle.vr_types.specs.declared.unit.AreaNo.{AreaNo}
use Rattle.vr_types.specs.declared.unit.PartNo.{PartNo}
use Rattle.vr_types.specs.declared.unit.Unit.{Unit as UnitOfRecovery}
use Rattle.vr_history.specs.Effects.{claims}
use Rattle.vr_history.specs.RefusedRoom.{free_areas}
use Rattle.vr_history.specs.State.{State}
use Rattle.vr_history.specs.Step.{case_of}
use Rattle.vr_history.specs.declared.entry.What.TheVariants.{Claimed, Split}
use Rattle.vr_record_file.specs.Now.{FileNow, IsStateOf, state_now, with_event}
use Rattle.vr_store.specs.Store.{IsStored}
use Rattle.vr_event.specs.Opening.{owned_in}
use Rattle.vr_volume.specs.Laid.{shape_in}
use Rattle.vr_event.specs.Volume.{OwnLaid, VolumeNow}

-- the part got this area, the least free one; or none got any
abbrev pub IsTakenBy : PartNo → List (Option PartNo) → List (Option PartNo) → Option AreaNo → Type 0
IsTakenBy part old new None = new ≡ old
IsTakenBy part old new (Some area) =
    (least_free old ≡ Some area.0) × (new ≡ slice_set old area.0 (Some part))

-- The record file once the stage is entered, for the request on this line: a stage that takes an area
-- splits no interval in two.
abbrev pub stage_entered : ℕ → UnitOfRecovery → ℕ → PartNo → Bool → Option AreaNo → FileNow
    → FileNow
stage_entered after unit line part split (Some area) file =
    with_event after unit line (Claimed part area) file
stage_entered after unit line part true None file = with_event after unit line (Split part) file
stage_entered after unit line part false None file = file

-- the state once it is: as it was, or the part has one area more
abbrev pub IsStateStaged : ℕ → State → State → Type 0
IsStateStaged part old new = (new ≡ old) ⊎ ((area : ℕ) × (new ≡ claims area part old))

-- A volume of which a stage of a part was done, before that is entered: its history gives the areas
-- as they were, one for each that its geometry has; the catalog lays the part, which got this area, or
-- none; and the store is of the state that the history gives.
pub record IsStaged {B : Type 0} (seen : B → Seen) (opening : State) (part : PartNo)
    (areas : List (Option PartNo)) (taken : Option AreaNo) (volume : VolumeNow B) : Type 0 where
  pub file : IsStateOf opening volume.file
  pub count : length areas ≡ area_count volume.file.geometry
  pub free : free_count areas
      ≡ free_areas (case_of volume.file.geometry (state_now opening volume.file)
      (record { deck = 0; number = 0 }) Commit)
  pub owned : IsPermutation (owned_in areas) (state_now opening volume.file).owned
  pub unlaid : volume.file.stopped ≡ None → OwnLaid volume.file.geometry volume.file.catalog areas
  pub laid : shape_in volume.file.geometry volume.file.catalog part.0 ≢ None
  pub taken_is : IsTakenBy part areas volume.store.space taken
  pub stored : volume.file.stopped ≡ None → IsStored volume.number volume.store
      (state_now opening volume.file) (seen volume.blocks)
