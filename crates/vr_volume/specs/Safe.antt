-- What makes the blocks of a volume recover to the records of the committed contents: off the places
-- that the log has free, each block that a crash may leave has the committed item, withdrawn or not,
-- or none, and each before-image of a unit without an end is the committed record of its place. So
-- an item that was withdrawn stays at its place. The rules are this project's own.
use Rattle.std.specs.Prelude.{◌≡◌, ℕ, List, [], All, Option, Some, None}
use Rattle.vr_types.specs.Content.{Content as ContentOf, Item, Ascends, item_at}
use Rattle.vr_types.specs.Geometry.{IsAllowed}
use Rattle.vr_types.specs.Image.{Image, block_at}
use Rattle.vr_types.specs.Regions.{IsImageOn}
use Rattle.vr_types.specs.Seen.{Seen, Only}
use Rattle.vr_types.specs.declared.geometry.Geometry.{Geometry}
use Rattle.vr_space.specs.Owners.{Owners}
use Rattle.vr_space.specs.Part.{Shape, IsSound, HasKeptRoom, HasOnly, HasRoom, MayHold}
use Rattle.vr_attach.specs.Owning.{IsPastLog}
use Rattle.vr_log.specs.Content.{Content as LogContent}
use Rattle.vr_log.specs.LogNow.{LogNow, HasLog, IsLogOf, IsOf}
use Rattle.vr_log.specs.Spells.{Spells}
use Rattle.vr_log.specs.Standing.{InLog}
use Rattle.vr_log.specs.declared.record.LogRecord.{LogRecord}
use Rattle.vr_history.specs.State.{BeforeImage}
use Rattle.vr_volume.specs.CatalogRules.{IsCatalog}
use Rattle.vr_volume.specs.Header.{header_block}
use Rattle.vr_volume.specs.Laid.{shape_by}
use Rattle.vr_volume.specs.PutBack.{AreAlone, images_of, oldest, lengths_kept, standing_of}
use Rattle.vr_volume.specs.Volume.{CanPutBack, IsInside}

-- off the places of before-images, what is found is the item of the content, withdrawn or not
abbrev pub IsItemOf : ℕ → List BeforeImage → ContentOf → List ℕ → Option Item → Type 0
IsItemOf part images content place found =
    oldest images part place ≡ None → found ≡ item_at content place

-- ---- the contents

-- These contents are committed, by a log of these records: part 0 is a catalog by which each other
-- part is on blocks that there are, a part that isn't laid has nothing, and each before-image may be
-- put back, and is the only one and the record of its place. Catalogs are read by their records
-- alone, so part 0 needs no rule of its own.
pub record AreCommitted (geometry : Geometry) (records : List LogRecord)
    (contents : ℕ → ContentOf) : Type 0 where
  pub each : (part : ℕ) → Ascends (contents part)
  pub catalog : IsCatalog geometry (contents 0)
  pub inside : (part : ℕ) (shape : Shape) → shape_by geometry (contents 0) part ≡ Some shape
      → IsInside geometry shape
  pub others : (part : ℕ) → shape_by geometry (contents 0) part ≡ None → contents part ≡ []
  pub images : All (CanPutBack (shape_by geometry (contents 0))) (images_of records)
  pub alone : AreAlone (images_of records)
  pub olds : (part : ℕ) (place : List ℕ) (image : BeforeImage)
      → oldest (images_of records) part place ≡ Some image
      → image.old ≡ standing_of (item_at (contents part) place)

-- ---- one image

-- What an image has of a part, in blocks of its own: off the places of before-images the items of
-- the content alone, and room for what is put back.
pub record IsPartIn (shape : Shape) (owners : Owners) (part : ℕ) (images : List BeforeImage)
    (content : ContentOf) (image : Image) : Type 0 where
  pub has : HasOnly shape owners (IsItemOf part images content) image
  pub room : HasRoom shape (lengths_kept images part) image

-- The image has this log, and each part in the blocks that these owners give it.
pub record IsImageSafe (geometry : Geometry) (number : ℕ) (owners : Owners) (log : LogContent)
    (contents : ℕ → ContentOf) (image : Image) : Type 0 where
  pub past : IsPastLog geometry owners
  pub header : block_at image 0 ≡ header_block geometry number
  pub log_is : Spells geometry image log
  pub committed : AreCommitted geometry log.records contents
  pub parts : (part : ℕ) (shape : Shape) → shape_by geometry (contents 0) part ≡ Some shape
      → IsPartIn shape owners part (images_of log.records) (contents part) image

-- The image has one of the logs that there may be, and recovers to the records of what is committed
-- by it.
abbrev pub IsSafeImage : Geometry → ℕ → Owners → LogNow → (List LogRecord → ℕ → ContentOf)
    → Image → Type 0
IsSafeImage geometry number owners log committed image = (content : LogContent)
    × IsLogOf log content
    × IsImageSafe geometry number owners content (committed content.records) image

-- ---- what a crash may leave

-- What a crash may leave of a part: the same of each block.
pub record IsPartSafe (shape : Shape) (owners : Owners) (part : ℕ) (images : List BeforeImage)
    (content : ContentOf) (now : Seen) : Type 0 where
  pub sound : IsSound shape owners now
  pub items : (place : List ℕ) (found : Option Item) → MayHold shape now.may place found
      → IsItemOf part images content place found
  pub room : HasKeptRoom shape (lengths_kept images part) now

-- Whichever log an image has: the contents that are committed by it, and each part.
pub record IsSafeBy (geometry : Geometry) (owners : Owners) (records : List LogRecord)
    (contents : ℕ → ContentOf) (now : Seen) : Type 0 where
  pub committed : AreCommitted geometry records contents
  pub parts : (part : ℕ) (shape : Shape) → shape_by geometry (contents 0) part ≡ Some shape
      → IsPartSafe shape owners part (images_of records) (contents part) now

-- The volume is safe: each image that a crash may leave recovers to the records of what is committed
-- by its log, each part in the blocks that these owners give it, which are past the log.
pub record IsSafe (geometry : Geometry) (number : ℕ) (owners : Owners) (log : LogNow)
    (committed : List LogRecord → ℕ → ContentOf) (now : Seen) : Type 0 where
  pub allowed : IsAllowed geometry
  pub past : IsPastLog geometry owners
  pub blocks : IsOf geometry now
  pub shape : log.geometry ≡ geometry
  pub header : Only now 0 (λ block. block ≡ header_block geometry number)
  pub logs : (image : Image) → IsImageOn (InLog geometry) now.count now.may image
      → HasLog log image
  pub by_log : (content : LogContent) → IsLogOf log content
      → IsSafeBy geometry owners content.records (committed content.records) now
