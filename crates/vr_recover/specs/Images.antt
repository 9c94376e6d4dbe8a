-- The before-images that the log of a volume has of live units, and whether they may be put back. The
-- rules are this project's own.
use Rattle.std.specs.Prelude.{◌≡◌, ◌⊎◌, ℕ, List, All, IfSome, Some, map, slice_get, take}
use Rattle.std.specs.Option.{option_and_then, option_map}
use Rattle.std.specs.declared.cmp.Ordering.TheVariants.{Equal}
use Rattle.vr_types.specs.Content.{Content, Standing, place_cmp, record_of}
use Rattle.vr_types.specs.Image.{Image}
use Rattle.vr_space.specs.Part.{HasRoom, Shape, part_no}
use Rattle.vr_history.specs.State.{BeforeImage}
use Rattle.vr_volume.specs.PutBack.{AreAlone, lengths_kept, put_back, standing}
use Rattle.vr_recover.specs.Undone.{FitsPart, IsCovered}

-- ---- the catalog

-- The catalog that counts: the records of part 0 once its before-images are put back. They say which
-- parts there are.
abbrev pub catalog_by : List BeforeImage → Content → Content
catalog_by images content = put_back 0 images (standing content)

-- the name of a record of the catalog, which is its place
abbrev pub name_in : List ℕ → List ℕ
name_in bytes = take 44 bytes

-- the content of these records of the catalog, each at its name
abbrev pub named : List (List ℕ) → Content
named records = map (λ (bytes : List ℕ). (name_in bytes, Standing bytes)) records

-- there is a record at this index, whose name compares as the place
abbrev pub HasName : List (List ℕ) → ℕ → List ℕ → Type 0
HasName records at place =
    option_map (λ (bytes : List ℕ). place_cmp place (name_in bytes)) (slice_get records at)
    ≡ Some Equal

-- what a before-image of the catalog's part puts back, if it is a record, is that of its place
abbrev pub IsNamed : BeforeImage → Type 0
IsNamed image = image.part ≡ 0
    → IfSome (option_and_then record_of image.old) (λ (bytes : List ℕ). name_in bytes ≡ image.place)

-- ---- all parts

-- Before-images that may be put back into parts of these shapes.
pub record MayGoBack (images : List BeforeImage) (shapes : List Shape) : Type 0 where
  pub alone : AreAlone images
  pub covered : All (IsCovered shapes) images
  pub fits : All (λ (shape : Shape). All (FitsPart shape) images) shapes

-- a part has room for those that are put back into it
abbrev pub HasRoomOf : List BeforeImage → Image → Shape → Type 0
HasRoomOf images image shape = HasRoom shape (lengths_kept images (part_no shape).0) image

-- they may not be put back into these parts, or a part has no room for its own
abbrev pub CannotGoBack : List BeforeImage → List Shape → Image → Type 0
CannotGoBack images shapes image =
    (MayGoBack images shapes → ⊥) ⊎ (All (HasRoomOf images image) shapes → ⊥)
