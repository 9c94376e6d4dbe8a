-- What is put back into a part as a volume is opened, and what the part reads then. The rules are
-- this project's own.
use Rattle.std.specs.Prelude.{◌≡◌, ◌<◌, ℕ, true, false, List, All, IfSome, Option, Some, None}
use Rattle.std.specs.Prelude.{◌≢◌, length, slice_get}
use Rattle.std.specs.Option.{option_and_then}
use Rattle.vr_types.specs.Content.{Ascends, Content, Item, item_at, record_of}
use Rattle.vr_types.specs.Image.{Image}
use Rattle.vr_types.specs.Seen.{Seen}
use Rattle.vr_types.specs.declared.geometry.Geometry.{Geometry}
use Rattle.vr_types.specs.declared.unit.PartNo.{PartNo}
use Rattle.vr_types.specs.declared.unit.Unit.{Unit as UnitOfRecovery}
use Rattle.vr_space.specs.Known.{Known}
use Rattle.vr_space.specs.Owners.{Owners}
use Rattle.vr_space.specs.Part.{HasKeptRoom, InFirstArea, IsAtRest, IsFirm, IsOn, IsPlaceOf}
use Rattle.vr_space.specs.Part.{IsRecordOf, Knows, MayHold, Shape, item_of, left_by, part_no}
use Rattle.vr_space.specs.Room.{Lengths, length_at}
use Rattle.vr_history.specs.State.{BeforeImage}
use Rattle.vr_log.specs.Content.{Content as LogContent}
use Rattle.vr_log.specs.Live.{is_in, live_in}
use Rattle.vr_log.specs.LogNow.{IsLogOf, LogNow}
use Rattle.vr_log.specs.declared.record.LogRecord.{LogRecord}
use Rattle.vr_log.specs.declared.record.LogRecord.TheVariants.{Before, End}
use Rattle.vr_part.specs.Attached.{IsAttachedWith}
use Rattle.vr_volume.specs.Laid.{shape_by}
use Rattle.vr_volume.specs.PutBack.{images_of, lengths_kept}
use Rattle.vr_recover.specs.Recovered.{HasNoMore, IsBackOf}
use Rattle.vr_volume.specs.Safe.{IsSafe}

-- Between two calls that put before-images back into it: the part is at rest, in the blocks that
-- these owners give it, with no split of an interval or of an area under way, and has room for what
-- is kept.
pub record IsReady (shape : Shape) (owners : Owners) (known : Known) (kept : Lengths) (now : Seen)
    : Type 0 where
  pub rests : IsAtRest shape owners now
  pub room : HasKeptRoom shape kept now
  pub knows : Knows shape known now
  pub no_split : known.split ≡ None
  pub no_move : known.move ≡ None

-- room is kept for the record at the place, of its length, or there is none
abbrev pub IsKeptAt : Lengths → List ℕ → Option (List ℕ) → Type 0
IsKeptAt kept place old =
    IfSome old (λ (bytes : List ℕ). length_at kept place ≡ Some (length bytes))

-- A before-image of a part is of a place of it, and a record that may stand there, or none.
pub record IsFit (shape : Shape) (image : BeforeImage) : Type 0 where
  pub place : IsPlaceOf shape image.place
  pub old : IfSome (option_and_then record_of image.old) (IsRecordOf shape image.place)

-- it is so of the before-images of this part
abbrev pub FitsPart : Shape → BeforeImage → Type 0
FitsPart shape image = image.part ≡ (part_no shape).0 → IsFit shape image

-- and room is kept for them
abbrev pub HasKeptFor : Shape → Lengths → BeforeImage → Type 0
HasKeptFor shape kept image = image.part ≡ (part_no shape).0
    → IsKeptAt kept image.place (option_and_then record_of image.old)

-- the content has at the place of a before-image of the part what putting it back leaves there
abbrev pub IsLeftIn : Shape → Content → Image → BeforeImage → Type 0
IsLeftIn shape content now image = image.part ≡ (part_no shape).0
    → item_at content image.place
    ≡ left_by shape (item_of shape now image.place) (option_and_then record_of image.old)

-- the place reads its item in the content
abbrev pub ReadsAs : Shape → Content → Image → List ℕ → Type 0
ReadsAs shape content now place = item_of shape now place ≡ item_at content place

-- that of a before-image of the part does
abbrev pub IsBackIn : Shape → Content → Image → BeforeImage → Type 0
IsBackIn shape content now image =
    image.part ≡ (part_no shape).0 → ReadsAs shape content now image.place

-- Calls put these before-images back into the part: no place that had its item lost it, and what
-- putting others back leaves is what it was.
pub record ArePutBack (shape : Shape) (content : Content) (images : List BeforeImage)
    (old new : Seen) : Type 0 where
  pub back : All (IsBackIn shape content new.cur) images
  pub stays : (place : List ℕ) → ReadsAs shape content old.cur place
      → ReadsAs shape content new.cur place
  pub left : (image : BeforeImage) → IsLeftIn shape content old.cur image
      → IsLeftIn shape content new.cur image

-- each place of the part reads its item in the content
abbrev pub ReadsContent : Shape → Content → Image → Type 0
ReadsContent shape content now = (place : List ℕ) → ReadsAs shape content now place

-- each image has all records of the log
abbrev pub HasAllRecords : LogNow → Type 0
HasAllRecords log = (content : LogContent) → IsLogOf log content → content.records ≡ log.records

-- whichever log an image has, it has no before-image of a place of which these images have none
abbrev pub HasFewer : List BeforeImage → LogNow → Type 0
HasFewer images log = (content : LogContent) → IsLogOf log content
    → HasNoMore images (images_of content.records)

-- Whatever a crash leaves of a part, each place has the item of the content.
abbrev pub HasContent : Shape → Content → Seen → Type 0
HasContent shape content now = (place : List ℕ) (found : Option Item)
    → MayHold shape now.may place found → found ≡ item_at content place

-- ---- several parts

-- each of the parts has a number of its own, so that no block is of two of them
abbrev pub HaveOwnNumbers : List Shape → Type 0
HaveOwnNumbers shapes = (at other : ℕ) (here there : Shape) → slice_get shapes at ≡ Some here
    → slice_get shapes other ≡ Some there → at ≢ other → (part_no here).0 ≢ (part_no there).0

-- the part is laid past the log
abbrev pub IsLaidPastLog : Geometry → Shape → Type 0
IsLaidPastLog geometry shape = (n : ℕ) → InFirstArea shape n → geometry.log < n

-- what is kept is what the log has of live units
abbrev pub IsKeptOf : (PartNo → Lengths) → LogNow → Type 0
IsKeptOf kept log = (part : PartNo) → kept part ≡ lengths_kept (images_of log.records) part.0

-- These parts are laid by the contents, and each image has all records of the log.
pub record AreOpened (geometry : Geometry) (log : LogNow) (contents : ℕ → Content)
    (shapes : List Shape) : Type 0 where
  pub laid : All (λ (shape : Shape). shape_by geometry (contents 0) (part_no shape).0 ≡ Some shape)
      shapes
  pub records : HasAllRecords log

-- one of these parts has this number
abbrev pub HasPart : List Shape → ℕ → Type 0
HasPart shapes part = (at : ℕ) × (shape : Shape) × (slice_get shapes at ≡ Some shape)
    × (part ≡ (part_no shape).0)

-- the part of a before-image is one of these
abbrev pub IsCovered : List Shape → BeforeImage → Type 0
IsCovered shapes image = HasPart shapes image.part

-- a crash leaves each place of a part alone
abbrev pub IsAllFirm : Shape → Seen → Type 0
IsAllFirm shape now = (place : List ℕ) → IsFirm shape now place

-- ---- the volume

-- each place of the parts reads its item in these contents
abbrev pub ReadsAll : Geometry → (ℕ → Content) → Image → Type 0
ReadsAll geometry contents now = (part : ℕ) (shape : Shape)
    → shape_by geometry (contents 0) part ≡ Some shape → ReadsContent shape (contents part) now

-- Whatever a crash leaves of the parts, each place has the item of these contents.
abbrev pub HasAll : Geometry → (ℕ → Content) → Seen → Type 0
HasAll geometry contents now = (part : ℕ) (shape : Shape)
    → shape_by geometry (contents 0) part ≡ Some shape → HasContent shape (contents part) now

-- the same contents are committed whatever the log has
abbrev pub alike : (ℕ → Content) → List LogRecord → ℕ → Content
alike contents records = contents

-- The volume is safe by these owners, with these contents committed, what was withdrawn too, and
-- whatever a crash leaves of its parts has their items: no before-image has to be put back any more.
pub record IsUndone (number : ℕ) (owners : Owners) (log : LogNow) (contents : ℕ → Content)
    (now : Seen) : Type 0 where
  pub safe : IsSafe log.geometry number owners log (alike contents) now
  pub ascends : (part : ℕ) → Ascends (contents part)
  pub all : HasAll log.geometry contents now

-- The part with this number as a crash left it: it is at rest, in the blocks that these owners give
-- it, a crash leaves each of its places alone, and these before-images, put back, leave the
-- content.
pub record IsSettledPart (shape : Shape) (owners : Owners) (part : ℕ) (images : List BeforeImage)
    (content : Content) (now : Seen) : Type 0 where
  pub rests : IsAtRest shape owners now
  pub firm : IsAllFirm shape now
  pub back : IsBackOf shape part images content now.cur

-- it is so of each part that the contents lay
abbrev pub AreSettled : Geometry → Owners → List BeforeImage → (ℕ → Content) → Seen → Type 0
AreSettled geometry owners images contents now = (part : ℕ) (shape : Shape)
    → shape_by geometry (contents 0) part ≡ Some shape
    → IsSettledPart shape owners part images (contents part) now

-- What undoing a crash's units of recovery begins with: the volume is safe by these owners, with
-- these contents committed, these parts are laid by them, each part is as a crash left it, and the
-- part of each before-image is one of these.
pub record IsSettled (number : ℕ) (owners : Owners) (log : LogNow) (contents : ℕ → Content)
    (shapes : List Shape) (now : Seen) : Type 0 where
  pub safe : IsSafe log.geometry number owners log (alike contents) now
  pub ascends : (part : ℕ) → Ascends (contents part)
  pub opened : AreOpened log.geometry log contents shapes
  pub parts : AreSettled log.geometry owners (images_of log.records) contents now
  pub covered : All (IsCovered shapes) (images_of log.records)

-- A part as it is opened: its blocks are there, past the log; it is at rest, in the blocks that
-- these owners give it, with no split of an interval or of an area under way and whatever it knows
-- as it is attached, and has room for what is kept; a crash leaves each of its places alone; and
-- each before-image of it may be put back.
pub record IsOpenedPart (geometry : Geometry) (owners : Owners) (images : List BeforeImage)
    (shape : Shape) (now : Seen) : Type 0 where
  pub on : IsOn shape now
  pub past : IsLaidPastLog geometry shape
  pub ready : (known : Known) → IsAttachedWith shape known now.cur
      → IsReady shape owners known (lengths_kept images (part_no shape).0) now
  pub firm : IsAllFirm shape now
  pub fits : All (FitsPart shape) images

-- the record is a before-image of the unit
abbrev pub IsBeforeOf : UnitOfRecovery → LogRecord → Type 0
IsBeforeOf unit (Before other part place old) = other ≡ unit
IsBeforeOf unit (End other kind) = ⊥

-- Each unit that is live now was so, and that of this record isn't.
pub record IsOut (rec : LogRecord) (old new : List LogRecord) : Type 0 where
  pub fewer : (unit : UnitOfRecovery) → is_in unit (live_in new) ≡ true
      → is_in unit (live_in old) ≡ true
  pub out : (unit : UnitOfRecovery) → IsBeforeOf unit rec → is_in unit (live_in new) ≡ false
