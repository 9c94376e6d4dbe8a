-- The last before-image that a unit keeps, and what putting it back makes of the state. The rules are
-- those of the record file; that the stages of a split come first is this project's own.
use Rattle.std.specs.Prelude.{◌≡◌, ℕ, Bool, true, false, List, Option, Some, None, IfSome}
use Rattle.std.specs.Option.{option_and_then}
use Rattle.vr_types.specs.Image.{Image}
use Rattle.vr_types.specs.declared.unit.Unit.{Unit as UnitOfRecovery}
use Rattle.vr_types.specs.declared.unit.PartNo.{PartNo}
use Rattle.vr_types.specs.declared.unit.StageKind.{StageKind}
use Rattle.vr_types.specs.declared.unit.StageKind.TheVariants.{CaClaim, CiClean, CiSwitch, Extend}
use Rattle.vr_types.specs.declared.geometry.Geometry.{Geometry}
use Rattle.vr_types.specs.Content.{item_at, record_of}
use Rattle.vr_space.specs.Owners.{Owners}
use Rattle.vr_space.specs.Part.{IsStageOf, OwnersAfter, Shape, left_by, stage_of}
use Rattle.vr_attach.specs.Owning.{claimed_by, owner_of}
use Rattle.vr_space.specs.declared.room.Room.{Room}
use Rattle.vr_space.specs.declared.room.Room.TheVariants.{NoSpace, Ready, Stage}
use Rattle.vr_history.specs.Effects.{last_kept, with_change, without_last}
use Rattle.vr_history.specs.State.{BeforeImage, State}
use Rattle.vr_undo.specs.Records.{befores_of, last_in}
use Rattle.vr_volume.specs.Laid.{shape_by}
use Rattle.vr_store.specs.Room.{IsRoomAt}
use Rattle.vr_store.specs.Store.{PartNow, StoreNow, part_among}

abbrev pub last_of_unit : StoreNow → UnitOfRecovery → Option BeforeImage
last_of_unit store unit = last_in unit (befores_of store.undo)

-- it is so of the last one, where there is one
abbrev pub OnLast : StoreNow → UnitOfRecovery → (BeforeImage → Type 0) → Type 0
OnLast store unit P = IfSome (last_of_unit store unit) P

-- a stage of a part left the owners of areas so
pub record HasAdvanced (part : PartNo) (shape : Shape) (old new : List (Option PartNo)) : Type 0
  where
    pub kind : StageKind
    pub stage : IsStageOf shape kind
    pub owners : OwnersAfter part kind old new

-- the areas once the part of a before-image got the least free one
abbrev pub claimed_for : List (Option PartNo) → Option BeforeImage → List (Option PartNo)
claimed_for areas None = areas
claimed_for areas (Some image) = claimed_by (record { 0 = image.part }) areas

-- which part each block is of, where that of the last before-image did
abbrev pub last_claimed : StoreNow → UnitOfRecovery → Owners
last_claimed store unit =
    owner_of store.log.geometry (claimed_for store.space (last_of_unit store unit))

-- A stage of a split comes first, one that takes no area. Where a chain of areas has the place
-- already, or no split has begun, nothing need grow for what is put back there: the room for it was
-- kept.
abbrev pub is_stage : Room → Bool
is_stage (Stage Extend) = false
is_stage (Stage CaClaim) = false
is_stage (Stage kind) = true
is_stage Ready = false
is_stage (NoSpace need free) = false

-- what the part of this number answers to such a record is that stage
pub record IsSplitDue (store : StoreNow) (image : Image) (number : ℕ) (place : List ℕ) (n : ℕ)
    : Type 0
  where
    pub kind : StageKind
    pub room : IsRoomAt store image number place n (Stage kind)
    pub first : is_stage (Stage kind) ≡ true

-- a stage of a split comes before it
abbrev pub IsDueAtLast : StoreNow → Image → UnitOfRecovery → ℕ → Type 0
IsDueAtLast store image unit n =
    OnLast store unit (λ last. IsSplitDue store image last.part last.place n)

-- The stage that the answer tells of: it names the part where an interval was split in two, and is
-- None of any other stage, which uses as many intervals as the one that cleans up.
abbrev pub stage_told : Option PartNo → StageKind
stage_told (Some part) = CiSwitch
stage_told None = CiClean

-- no stage of a split is left at a place
abbrev pub HasNoStage : StoreNow → Image → ℕ → List ℕ → Type 0
HasNoStage store image number place = IfSome (part_among store.parts number)
    (λ (part : PartNow). stage_of part.shape part.known image place ≡ None)

-- where a record of a length is to be put back at a place, such a stage comes first, or none is
-- left
abbrev pub IsMetBy : Bool → StoreNow → Image → ℕ → List ℕ → ℕ → Type 0
IsMetBy true store image number place n = IsSplitDue store image number place n
IsMetBy false store image number place n = HasNoStage store image number place

-- The last before-image that the unit keeps is put back, and kept no more: at its place is what a
-- part that is laid so leaves there.
pub record IsBackIn (geometry : Geometry) (unit : UnitOfRecovery) (old new : State) : Type 0 where
  pub last : BeforeImage
  pub is : last_kept old unit ≡ Some last
  pub shape : Shape
  pub laid : shape_by geometry (old.contents 0) last.part ≡ Some shape
  pub contents : new.contents ≡ with_change (record {
    part = last.part;
    place = last.place;
    new = left_by shape (item_at (old.contents last.part) last.place)
        (option_and_then record_of last.old);
  }) old.contents
  pub befores : new.befores ≡ without_last unit old.befores
  pub logged : new.logged ≡ old.logged
  pub used : new.used ≡ old.used
  pub numbers : new.numbers ≡ old.numbers
