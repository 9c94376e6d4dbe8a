-- Splits between the calls of a part, and what a stage leaves. The rules are this project's own.
use Rattle.std.specs.Prelude.{◌≡◌, ◌<◌, ℕ, List, Option, Some, None, Contains}
use Rattle.vr_types.specs.Geometry.{area_count}
use Rattle.vr_types.specs.Image.{Image}
use Rattle.vr_types.specs.Space.{least_free}
use Rattle.vr_types.specs.declared.unit.PartNo.{PartNo}
use Rattle.vr_types.specs.declared.unit.StageKind.{StageKind}
use Rattle.vr_types.specs.declared.unit.StageKind.TheVariants.{CiSwitch}
use Rattle.vr_types.specs.declared.unit.StageKind.TheVariants.{CiClean}
use Rattle.vr_space.specs.declared.room.Room.TheVariants.{Stage}
use Rattle.vr_space.specs.Room.{Lengths}
use Rattle.vr_space.specs.Keyed.{Keyed}
use Rattle.vr_space.specs.Split.{SplitNow}
use Rattle.vr_attach.specs.Areas.{AreasNow}
use Rattle.vr_keyed.specs.Splits.{room_here}

-- a stage that a split has reached once its copy is done
abbrev pub IsLaterStage : StageKind → Type 0
IsLaterStage CiSwitch = Unit {0}
IsLaterStage CiClean = Unit {0}
IsLaterStage stage = ⊥

-- Between two calls no split is under way, or one whose copy is done.
abbrev pub IsLater : Option SplitNow → Type 0
IsLater None = Unit {0}
IsLater (Some split) = IsLaterStage split.stage

-- The least free area of the volume, where one is free, is none of the chain.
abbrev pub IsLeastAside : AreasNow → List (Option PartNo) → Type 0
IsLeastAside chain owners = (area : ℕ) → least_free owners ≡ Some area
    → (area < area_count chain.part.geometry) × (Contains chain.areas area → ⊥)

-- a stage comes before such a record of the area, though no area can be split
abbrev pub IsDue : Keyed → Option SplitNow → Image → Lengths → List ℕ → ℕ → Type 0
IsDue part split image kept place n =
    (kind : StageKind) × (room_here part split image kept place n ≡ Stage kind)
