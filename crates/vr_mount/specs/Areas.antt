-- On which areas the parts of a catalog are, and who owns each area. The rules are this project's
-- own.
use Rattle.std.specs.Prelude.{◌≡◌, ℕ, ◌+◌, ◌<◌, ◌==◌, if◌then◌else◌, List, Option, Some, None}
use Rattle.std.specs.Prelude.{length}
use Rattle.std.specs.Prelude.{IfSome, slice_index_or}
use Rattle.std.specs.Option.{option_and_then}
use Rattle.vr_types.specs.Geometry.{area_count, head_block}
use Rattle.vr_types.specs.Image.{Image}
use Rattle.vr_types.specs.declared.geometry.Geometry.{Geometry}
use Rattle.vr_types.specs.declared.unit.PartNo.{PartNo}
use Rattle.vr_catalog.specs.Catalog.{entry_with_part}
use Rattle.vr_catalog.specs.declared.entry.CatEntry.{CatEntry}
use Rattle.vr_space.specs.Part.{Shape, KeyedShape, NumberedShape, owned_count}
use Rattle.vr_attach.specs.Laid.{ReachesArea, shape_in}
use Rattle.vr_mount.specs.Numbers.{laid_area}

-- the area of a part, where the entries lay it: the catalog's own is area 0
abbrev pub area_in : List CatEntry → ℕ → Option ℕ
area_in entries part =
    if part == 0 then Some 0 else option_and_then laid_area (entry_with_part entries part)

-- the first block of a part's first area, and how many blocks of the area come after it
abbrev pub first_block : Shape → ℕ
first_block (KeyedShape part) = head_block part.geometry part.first
first_block (NumberedShape part) = head_block part.geometry part.first

abbrev pub area_length : Shape → ℕ
area_length (KeyedShape part) = part.geometry.area
area_length (NumberedShape part) = part.geometry.area

-- the first area of a part is on blocks below this one
abbrev pub EndsBefore : ℕ → Shape → Type 0
EndsBefore count shape = first_block shape + area_length shape < count

-- the first area of each part that the entries lay is on blocks of the volume
abbrev pub AreOn : Geometry → List CatEntry → Type 0
AreOn geometry entries = (part : ℕ) (shape : Shape) → shape_in geometry entries part ≡ Some shape
    → EndsBefore geometry.blocks shape

-- the area that an entry lays is below this number of areas
abbrev pub IsBelow : ℕ → CatEntry → Type 0
IsBelow areas entry = IfSome (laid_area entry) (λ area. area < areas)

abbrev pub part_of : CatEntry → PartNo
part_of entry = entry.part

-- the catalog's own part
abbrev pub catalog_part : PartNo
catalog_part = record { 0 = 0 }

-- a part begins with this block
abbrev pub BeginsWith : ℕ → Shape → Type 0
BeginsWith block shape = first_block shape ≡ block

-- The entries lay the part in this area, which is its first one.
pub record IsLaidIn (geometry : Geometry) (entries : List CatEntry) (part area : ℕ) : Type 0 where
  pub shape : Shape
  pub laid : shape_in geometry entries part ≡ Some shape
  pub begins : BeginsWith (head_block geometry area) shape

-- Each area in which a part is laid is owned by that part, which owns no other, and each other area
-- is free: so it is before the chains of areas are walked over.
pub record AreFirstOwners (geometry : Geometry) (entries : List CatEntry)
    (owners : List (Option PartNo)) : Type 0 where
  pub count : length owners ≡ area_count geometry
  pub owned : (part : PartNo) (area : ℕ) → IsLaidIn geometry entries part.0 area
      → slice_index_or owners area None ≡ Some part
  pub only : (part : PartNo) (area : ℕ) → slice_index_or owners area None ≡ Some part
      → IsLaidIn geometry entries part.0 area
  pub alone : (part : PartNo) (area : ℕ) → IsLaidIn geometry entries part.0 area
      → owned_count part owners ≡ 1

-- The entries lay the part, and it reaches the area in the image.
pub record IsReachedIn (geometry : Geometry) (entries : List CatEntry) (image : Image)
    (part area : ℕ) : Type 0 where
  pub shape : Shape
  pub laid : shape_in geometry entries part ≡ Some shape
  pub reaches : ReachesArea geometry shape image area

-- Each area that a part reaches is owned by that part, and each other is free.
pub record AreOwners (geometry : Geometry) (entries : List CatEntry) (image : Image)
    (owners : List (Option PartNo)) : Type 0 where
  pub count : length owners ≡ area_count geometry
  pub owned : (part : PartNo) (area : ℕ) → IsReachedIn geometry entries image part.0 area
      → slice_index_or owners area None ≡ Some part
  pub only : (part : PartNo) (area : ℕ) → slice_index_or owners area None ≡ Some part
      → IsReachedIn geometry entries image part.0 area
