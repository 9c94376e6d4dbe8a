-- How a part that a call changes goes with the logs that an image may have. The rules are this
-- project's own.
use Rattle.std.specs.Prelude.{◌≡◌, ◌≢◌, ◌⊎◌, ◌∷◌, ◌++◌, [], ℕ, List, Some, None, false}
use Rattle.vr_types.specs.Content.{Content}
use Rattle.vr_types.specs.declared.geometry.Geometry.{Geometry}
use Rattle.vr_space.specs.Owners.{Owners}
use Rattle.vr_space.specs.Part.{InPart, Shape}
use Rattle.vr_space.specs.Room.{Lengths}
use Rattle.vr_log.specs.Content.{Content as LogContent}
use Rattle.vr_log.specs.LogNow.{IsForced, IsLogOf, LogNow, with_record, with_records}
use Rattle.vr_log.specs.Standing.{InLog}
use Rattle.vr_log.specs.declared.record.LogRecord.{LogRecord}
use Rattle.vr_volume.specs.Laid.{shape_by}
use Rattle.vr_volume.specs.PutBack.{images_of, lengths_kept, oldest}

-- By a log of these records the part is laid so, and this is what is put back into it.
pub record IsLaidBy (geometry : Geometry) (records : List LogRecord)
    (committed : List LogRecord → ℕ → Content) (part : ℕ) (shape : Shape) (kept : Lengths) : Type 0
  where
    pub laid : shape_by geometry (committed records 0) part ≡ Some shape
    pub kept_is : kept ≡ lengths_kept (images_of records) part

-- It is so whichever log an image has.
abbrev pub IsLaidSo : Geometry → LogNow → (List LogRecord → ℕ → Content) → ℕ → Shape → Lengths
    → Type 0
IsLaidSo geometry log committed part shape kept = (content : LogContent) → IsLogOf log content
    → IsLaidBy geometry content.records committed part shape kept

-- each log that an image may have has a before-image of the place
abbrev pub IsFreeIn : LogNow → ℕ → List ℕ → Type 0
IsFreeIn log part place = (content : LogContent) → IsLogOf log content
    → oldest (images_of content.records) part place ≢ None

-- the blocks of the log, and those of a part
abbrev pub InLogOr : Geometry → Shape → Owners → ℕ → Type 0
InLogOr geometry shape owners n = InLog geometry n ⊎ InPart shape owners n

-- With the record the log was forced: each image has them all.
pub record IsLogged (old : LogNow) (rec : LogRecord) (new : LogNow) : Type 0 where
  pub geometry : new.geometry ≡ old.geometry
  pub records : new.records ≡ old.records ++ rec ∷ []
  pub forced : IsForced new
  pub sound : new.broken ≡ false
  pub less : (content : LogContent) → IsLogOf new content → IsLogOf (with_record old rec) content
  pub all : (content : LogContent) → IsLogOf new content → content.records ≡ old.records ++ rec ∷ []

-- The same of several records: each image has them all, unless there is no record.
pub record AreLogged (old : LogNow) (records : List LogRecord) (new : LogNow) : Type 0 where
  pub geometry : new.geometry ≡ old.geometry
  pub generation : new.generation ≡ old.generation
  pub records_are : new.records ≡ old.records ++ records
  pub forced : IsForced new
  pub sound : new.broken ≡ false
  pub less : (content : LogContent) → IsLogOf new content
      → IsLogOf (with_records old records) content
  pub all : (content : LogContent) → IsLogOf new content
      → (content.records ≡ new.records) ⊎ (new.records ≡ [])
