-- What the blocks of a whole volume stand for: its log, and a content of each part. And what they
-- recover to: the records of the contents, with the before-images of units that haven't ended put
-- back. The rules are this project's own.
use Rattle.std.specs.Prelude.{◌≡◌, ℕ, List, [], All, IfSome, Option, Some, None}
use Rattle.std.specs.Option.{option_and_then}
use Rattle.vr_types.specs.Content.{Content as ContentOf, item_at, record_of}
use Rattle.vr_types.specs.Image.{Image, block_at}
use Rattle.vr_types.specs.declared.geometry.Geometry.{Geometry}
use Rattle.vr_space.specs.Owners.{Owners}
use Rattle.vr_space.specs.Part.{Shape, StandsFor, IsPlaceOf, IsRecordOf, HasRoom}
use Rattle.vr_space.specs.Part.{StaysIn}
use Rattle.vr_attach.specs.Owning.{IsPastLog}
use Rattle.vr_history.specs.State.{BeforeImage}
use Rattle.vr_log.specs.Content.{Content as LogContent}
use Rattle.vr_log.specs.Spells.{Spells}
use Rattle.vr_volume.specs.CatalogRules.{IsCatalog}
use Rattle.vr_volume.specs.Header.{header_block}
use Rattle.vr_volume.specs.Laid.{shape_by}
use Rattle.vr_volume.specs.PutBack.{AreAlone, images_of, lengths_kept, oldest, put_back, standing}
pub use Rattle.vr_attach.specs.Laid.{IsInside}

-- the records of part 0 once the before-images are put back: they say which parts there are
abbrev pub catalog_back : LogContent → (ℕ → ContentOf) → ContentOf
catalog_back log contents = put_back 0 (images_of log.records) (standing (contents 0))

-- the shapes of the parts by it
abbrev pub shapes_by : Geometry → LogContent → (ℕ → ContentOf) → ℕ → Option Shape
shapes_by geometry log contents = shape_by geometry (catalog_back log contents)

-- The blocks of the image stand for this log and these contents: each part in blocks of its own,
-- which are past the log; a part that isn't laid has none.
pub record VolumeStandsFor (geometry : Geometry) (number : ℕ) (image : Image) (log : LogContent)
    (contents : ℕ → ContentOf) : Type 0 where
  pub header : block_at image 0 ≡ header_block geometry number
  pub log_is : Spells geometry image log
  pub catalog : IsCatalog geometry (catalog_back log contents)
  pub owners : Owners
  pub past : IsPastLog geometry owners
  pub laid : (part : ℕ) (shape : Shape) → shapes_by geometry log contents part ≡ Some shape
      → StandsFor shape image (contents part)
  pub within : (part : ℕ) (shape : Shape) → shapes_by geometry log contents part ≡ Some shape
      → StaysIn shape owners image
  pub others : (part : ℕ) → shapes_by geometry log contents part ≡ None → contents part ≡ []

-- A before-image may be put back: its part is laid, and it is a record that may stand at a place of
-- it, or none.
pub record CanPutBack (shapes : ℕ → Option Shape) (image : BeforeImage) : Type 0 where
  pub shape : Shape
  pub laid : shapes image.part ≡ Some shape
  pub place : IsPlaceOf shape image.place
  pub old : IfSome (option_and_then record_of image.old) (IsRecordOf shape image.place)

-- They recover to these contents, which have records alone: what was withdrawn is left out.
pub record Recovers (geometry : Geometry) (number : ℕ) (image : Image)
    (recovered : ℕ → ContentOf) : Type 0 where
  pub log : LogContent
  pub contents : ℕ → ContentOf
  pub stands : VolumeStandsFor geometry number image log contents
  pub inside : (part : ℕ) (shape : Shape) → shapes_by geometry log contents part ≡ Some shape
      → IsInside geometry shape
  pub images : All (CanPutBack (shapes_by geometry log contents)) (images_of log.records)
  pub alone : AreAlone (images_of log.records)
  -- each interval has room for the before-images of its range beside its records
  pub room : (part : ℕ) (shape : Shape) → shapes_by geometry log contents part ≡ Some shape
      → HasRoom shape (lengths_kept (images_of log.records) part) image
  pub back : (part : ℕ) → recovered part
      ≡ put_back part (images_of log.records) (standing (contents part))

-- They recover to the records of these contents, by this log; and off the places of its
-- before-images they have the items of the contents, withdrawn or not.
pub record RecoversItems (geometry : Geometry) (number : ℕ) (log : LogContent)
    (committed : ℕ → ContentOf) (image : Image) : Type 0 where
  pub recovers : Recovers geometry number image (λ part. standing (committed part))
  pub log_is : recovers.log ≡ log
  pub items : (part : ℕ) (place : List ℕ) → oldest (images_of log.records) part place ≡ None
      → item_at (recovers.contents part) place ≡ item_at (committed part) place
