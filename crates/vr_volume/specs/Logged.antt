-- A before-image that a unit logs as it first changes a place. The rules are this project's own.
use Rattle.std.specs.Prelude.{◌≡◌, ◌⊎◌, ◌≤◌, ℕ, true, false, List, [], ◌∷◌, ◌++◌, length, Option}
use Rattle.std.specs.Prelude.{None, Some}
use Rattle.std.specs.Option.{option_map}
use Rattle.vr_types.specs.Content.{Content, Standing, item_at}
use Rattle.vr_types.specs.Locks.{same_unit}
use Rattle.vr_types.specs.declared.geometry.Geometry.{Geometry}
use Rattle.vr_types.specs.declared.unit.PartNo.{PartNo}
use Rattle.vr_types.specs.declared.unit.Unit.{Unit as UnitOfRecovery}
use Rattle.vr_space.specs.Part.{IsPlaceOf, Shape}
use Rattle.vr_log.specs.Live.{is_in, live_in}
use Rattle.vr_log.specs.LogNow.{LogNow, with_record}
use Rattle.vr_log.specs.declared.record.LogRecord.{LogRecord}
use Rattle.vr_log.specs.declared.record.LogRecord.TheVariants.{Before, End}
use Rattle.vr_volume.specs.Laid.{shape_by}
use Rattle.vr_volume.specs.PutBack.{images_of, oldest}

-- the records have no before-image of the unit
abbrev pub HasNoneOf : UnitOfRecovery → List LogRecord → Type 0
HasNoneOf unit [] = Unit {0}
HasNoneOf unit (Before other part place old ∷ records) =
    (same_unit other unit ≡ false) × HasNoneOf unit records
HasNoneOf unit (End other kind ∷ records) = HasNoneOf unit records

-- The unit is live, or logs its first before-image. It is the first of the place, which is one of a
-- part that is laid, has the committed item, and leaves what is committed as it is.
pub record IsFirstBefore (geometry : Geometry) (log : LogNow)
    (committed : List LogRecord → ℕ → Content) (unit : UnitOfRecovery) (part : PartNo)
    (place : List ℕ) (old : Option (List ℕ)) : Type 0 where
  pub forced : log.forced ≤ length log.records
  pub live : (is_in unit (live_in log.records) ≡ true) ⊎ HasNoneOf unit log.records
  pub first : oldest (images_of log.records) part.0 place ≡ None
  pub item : option_map Standing old ≡ item_at (committed log.records part.0) place
  pub same : committed (log.records ++ Before unit part place old ∷ []) ≡ committed log.records
  pub shape : Shape
  pub laid : shape_by geometry (committed log.records 0) part.0 ≡ Some shape
  pub at : IsPlaceOf shape place

-- Each record is such a before-image, by the log with those before it.
abbrev pub AreFirstBefores : Geometry → LogNow → (List LogRecord → ℕ → Content) → List LogRecord
    → Type 0
AreFirstBefores geometry log committed [] = Unit {0}
AreFirstBefores geometry log committed (Before unit part place old ∷ records) =
    IsFirstBefore geometry log committed unit part place old
    × AreFirstBefores geometry (with_record log (Before unit part place old)) committed records
AreFirstBefores geometry log committed (End unit kind ∷ records) = ⊥
