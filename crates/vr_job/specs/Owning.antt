-- Who owns the areas of a volume between two events. The rules are this project's own.
use Rattle.std.specs.Prelude.{◌≡◌, ◌⊎◌, ℕ, List, Option, None, Some, length, slice_index_or}
use Rattle.std.specs.List.Sorted.{IsPermutation}
use Rattle.vr_types.specs.Geometry.{area_count}
use Rattle.vr_types.specs.Image.{Image}
use Rattle.vr_types.specs.declared.geometry.Geometry.{Geometry}
use Rattle.vr_types.specs.declared.unit.PartNo.{PartNo}
use Rattle.vr_catalog.specs.Catalog.{entries_in}
use Rattle.vr_catalog.specs.declared.entry.CatEntry.{CatEntry}
use Rattle.vr_space.specs.Areas.{KeyedChain}
use Rattle.vr_space.specs.Part.{KeyedShape}
use Rattle.vr_attach.specs.Laid.{shape_in}
use Rattle.vr_history.specs.State.{State}
use Rattle.vr_mount.specs.Areas.{IsReachedIn}
use Rattle.vr_event.specs.Opening.{owned_in}

-- The area is ahead of the part, which is key-sequenced: the part doesn't reach it in the image, as
-- long as the split of an area that claimed it hasn't led there yet.
pub record IsAhead (geometry : Geometry) (entries : List CatEntry) (image : Image) (part area : ℕ)
    : Type 0
  where
    pub keyed : KeyedChain
    pub laid : shape_in geometry entries part ≡ Some (KeyedShape keyed)
    pub apart : IsReachedIn geometry entries image part area → ⊥

-- Each area that a part of these entries reaches in the image is owned by that part, and each other
-- is free, but for one at most of each key-sequenced part, which is ahead of it and which it owns.
pub record AreOwnersWithAhead (geometry : Geometry) (entries : List CatEntry) (image : Image)
    (owners : List (Option PartNo)) : Type 0
  where
    pub count : length owners ≡ area_count geometry
    pub owned : (part : PartNo) (area : ℕ) → IsReachedIn geometry entries image part.0 area
        → slice_index_or owners area None ≡ Some part
    pub only : (part : PartNo) (area : ℕ) → slice_index_or owners area None ≡ Some part
        → IsReachedIn geometry entries image part.0 area
        ⊎ IsAhead geometry entries image part.0 area
    pub one : (part : PartNo) (area other : ℕ) → slice_index_or owners area None ≡ Some part
        → slice_index_or owners other None ≡ Some part
        → IsAhead geometry entries image part.0 area
        → IsAhead geometry entries image part.0 other → area ≡ other

-- So it is by the state's catalog, and those that are owned are the state's, with the parts that
-- have them there.
pub record HasOwners (geometry : Geometry) (state : State) (image : Image) : Type 0 where
  pub owners : List (Option PartNo)
  pub are : AreOwnersWithAhead geometry (entries_in (state.contents 0)) image owners
  pub owned : IsPermutation (owned_in owners) state.owned
