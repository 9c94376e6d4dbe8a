-- What a volume has once the before-images are put back that its log has of units without an end.
-- Records are what it recovers to; an added record of an entry-sequenced part keeps its address,
-- and is withdrawn. The rules are this project's own.
use Rattle.std.specs.Prelude.{◌≡◌, ℕ, List, [], Option, Some, None}
use Rattle.std.specs.Option.{option_and_then}
use Rattle.vr_types.specs.Content.{Ascends, Content, Item, item_at, record_of}
use Rattle.vr_types.specs.Image.{Image, block_at}
use Rattle.vr_types.specs.declared.geometry.Geometry.{Geometry}
use Rattle.vr_space.specs.Part.{Shape, item_of, left_by}
use Rattle.vr_attach.specs.Header.{header_block}
use Rattle.vr_history.specs.State.{BeforeImage}
use Rattle.vr_log.specs.Content.{Content as LogContent}
use Rattle.vr_log.specs.Spells.{Spells}
use Rattle.vr_log.specs.declared.record.LogRecord.{LogRecord}
use Rattle.vr_volume.specs.Laid.{shape_by}
use Rattle.vr_volume.specs.PutBack.{images_of, oldest, standing}
use Rattle.vr_volume.specs.Volume.{Recovers, RecoversItems}

-- the records of each part
abbrev pub standing_all : (ℕ → Content) → ℕ → Content
standing_all contents part = standing (contents part)

-- What is at a place once its before-image is put back, if it has one: what this leaves of the item
-- that was there.
abbrev pub item_back : Shape → Option BeforeImage → Option Item → Option Item
item_back shape None item = item
item_back shape (Some image) item = left_by shape item (option_and_then record_of image.old)

-- At each place of the part with this number the content has what the image has there, once these
-- before-images are put back.
abbrev pub IsBackOf : Shape → ℕ → List BeforeImage → Content → Image → Type 0
IsBackOf shape part images content image = (place : List ℕ) → item_at content place
    ≡ item_back shape (oldest images part place) (item_of shape image place)

-- So it is in each part that the contents lay, with the before-images that a log of these records
-- has of units without an end.
abbrev pub AreBackOf : Geometry → List LogRecord → (ℕ → Content) → Image → Type 0
AreBackOf geometry records contents image = (part : ℕ) (shape : Shape)
    → shape_by geometry (contents 0) part ≡ Some shape
    → IsBackOf shape part (images_of records) (contents part) image

-- The blocks of the volume have the contents, once the before-images are put back that the log has
-- of units without an end. Each place has what the blocks had; or, where such a unit changed it,
-- what putting its before-image back leaves: an added record of an entry-sequenced part becomes a
-- withdrawn one where it is there.
pub record IsRecovered (geometry : Geometry) (number : ℕ) (contents : ℕ → Content) (image : Image)
    : Type 0 where
  pub header : block_at image 0 ≡ header_block geometry number
  pub log : LogContent
  pub spelled : Spells geometry image log
  pub items : AreBackOf geometry log.records contents image

-- The blocks have these contents so, and recover to their records; a part that isn't laid has
-- nothing.
pub record IsWhole (geometry : Geometry) (number : ℕ) (contents : ℕ → Content) (image : Image)
    : Type 0 where
  pub recovers : Recovers geometry number image (standing_all contents)
  pub whole : IsRecovered geometry number contents image
  pub ascends : (part : ℕ) → Ascends (contents part)
  pub others : (part : ℕ) → shape_by geometry (contents 0) part ≡ None → contents part ≡ []

-- ---- while it is put back

-- where these before-images have none of a place, those haven't either
abbrev pub HasNoMore : List BeforeImage → List BeforeImage → Type 0
HasNoMore these those = (part : ℕ) (place : List ℕ) → oldest these part place ≡ None
    → oldest those part place ≡ None

-- The image recovers to the records of these contents, by a log of its own. Off the places of that
-- log's before-images it has the items of the contents, withdrawn or not; and where these images
-- have none of a place, that log hasn't either. So what is withdrawn there stays withdrawn, with
-- nothing to put back: an address that was given is never given again (DFSMS Using Data Sets,
-- entry-sequenced data sets).
pub record KeepsAll (geometry : Geometry) (number : ℕ) (images : List BeforeImage)
    (contents : ℕ → Content) (image : Image) : Type 0 where
  pub log : LogContent
  pub items : RecoversItems geometry number log contents image
  pub fewer : HasNoMore images (images_of log.records)
