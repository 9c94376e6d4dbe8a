-- What a call that puts a before-image back has to know. The rules are this project's own.
use Rattle.std.specs.Prelude.{◌≡◌, ℕ, List, Option}
use Rattle.vr_types.specs.Content.{Item}
use Rattle.vr_types.specs.Seen.{Seen}
use Rattle.vr_types.specs.declared.geometry.Geometry.{Geometry}
use Rattle.vr_types.specs.declared.unit.PartNo.{PartNo}
use Rattle.vr_types.specs.declared.unit.Unit.{Unit as UnitOfRecovery}
use Rattle.vr_space.specs.Known.{Known}
use Rattle.vr_space.specs.Owners.{Owners}
use Rattle.vr_space.specs.Part.{Shape}
use Rattle.vr_log.specs.LogNow.{LogNow}
use Rattle.vr_history.specs.Effects.{without_last}
use Rattle.vr_history.specs.State.{BeforeImage, State}
use Rattle.vr_undo.specs.Records.{befores_of, images_in}
use Rattle.vr_undo.specs.declared.record.KeptRecord.{KeptRecord}
use Rattle.vr_volume.specs.Rests.{IsGivenFor, IsPartAtRest, IsVolumeAtRest}
use Rattle.vr_volume.specs.Steps.{Changing, IsChangeOf, IsPutBack}
use Rattle.vr_store.specs.Store.{IsStored, StoreNow}

-- The volume and the part are at rest by the state, and what is given is the last before-image that
-- the unit keeps.
pub record IsToBack (geometry : Geometry) (number : ℕ) (owners : Owners) (log : LogNow)
    (images : List BeforeImage) (old new : State) (change : Changing) (shape : Shape)
    (known : Known) (place : List ℕ) (found : Option (List ℕ)) (now : Seen) : Type 0 where
  pub volume : IsVolumeAtRest geometry number owners log images old now
  pub part : IsPartAtRest geometry owners images old shape known now
  pub of : IsChangeOf geometry old change
  pub step : IsPutBack change old new
  pub given : IsGivenFor old change shape place found

-- The store was the state's before the last before-image of the unit was taken out, which is to be
-- put back.
pub record IsTakenFrom (number : ℕ) (store : StoreNow) (unit : UnitOfRecovery) (state : State)
    (now : Seen) : Type 0 where
  pub undo : List KeptRecord
  pub stored : IsStored number (record store { undo = undo }) state now
  pub images : images_in store.undo ≡ images_in undo
  pub befores : befores_of store.undo ≡ without_last unit (befores_of undo)

-- it was some state's
pub record IsTaken (store : StoreNow) (unit : UnitOfRecovery) (now : Seen) : Type 0 where
  pub number : ℕ
  pub state : State
  pub from : IsTakenFrom number store unit state now

-- what putting it back changes: `new` is what the part leaves then
abbrev pub back_at : UnitOfRecovery → PartNo → List ℕ → Option (List ℕ) → Option Item → Changing
back_at unit part place was new = record {
  unit = unit;
  part = part;
  place = place;
  old = was;
  new = new;
}
