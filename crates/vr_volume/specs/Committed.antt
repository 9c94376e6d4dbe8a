-- What is committed of a volume in a state of its record file, by the log that an image has: the
-- contents of the state, with what was withdrawn, and with the before-images put back that its units
-- keep, but for a unit whose commit the log has already. And what the log of such a volume has. The
-- rules are this project's own.
use Rattle.std.specs.Prelude.{◌≡◌, ◌≢◌, ◌<◌, ℕ, Bool, true, false, not, List, [], Option, Some}
use Rattle.std.specs.Prelude.{None, ◌&&◌, filter, map, All}
use Rattle.std.specs.List.{list_any}
use Rattle.vr_types.specs.Content.{Content, Item, Ascends, item_at}
use Rattle.vr_types.specs.Locks.{same_unit}
use Rattle.vr_types.specs.Seen.{Seen}
use Rattle.vr_types.specs.declared.geometry.Geometry.{Geometry}
use Rattle.vr_types.specs.declared.unit.Unit.{Unit as UnitOfRecovery}
use Rattle.vr_space.specs.Part.{IsPlaceOf, MayHold, Shape}
use Rattle.vr_log.specs.Live.{is_in, live_in, used_by}
use Rattle.vr_log.specs.LogNow.{LogNow}
use Rattle.vr_log.specs.declared.record.EndKind.{EndKind}
use Rattle.vr_log.specs.declared.record.EndKind.TheVariants.{Committed, BackedOut}
use Rattle.vr_log.specs.declared.record.LogRecord.{LogRecord}
use Rattle.vr_log.specs.declared.record.LogRecord.TheVariants.{Before, End}
use Rattle.vr_history.specs.declared.entry.Entry.{Entry}
use Rattle.vr_history.specs.Committed.{is_counted}
use Rattle.vr_history.specs.State.{BeforeImage, Logged, State, is_live}
use Rattle.vr_volume.specs.CatalogRules.{IsCatalog}
use Rattle.vr_volume.specs.Laid.{shape_by}
use Rattle.vr_volume.specs.PutBack.{AreAlone, images_of, oldest, put_back, standing_of}

abbrev pub is_committing : EndKind → Bool
is_committing Committed = true
is_committing BackedOut = false

-- the record is a commit of the unit
abbrev pub commits_unit : UnitOfRecovery → LogRecord → Bool
commits_unit unit (Before other part place old) = false
commits_unit unit (End other kind) = same_unit other unit && is_committing kind

abbrev pub has_commit : List LogRecord → UnitOfRecovery → Bool
has_commit records unit = list_any (commits_unit unit) records

-- the before-images of units whose commit the log hasn't
abbrev pub kept_by : List LogRecord → List BeforeImage → List BeforeImage
kept_by records befores = filter (λ image. not (has_commit records image.unit)) befores

-- what is committed, by a log of these records
abbrev pub committed_by : State → List LogRecord → ℕ → Content
committed_by state records part =
    put_back part (kept_by records state.befores) (state.contents part)

-- A before-image is of a place of a part that is laid, and not of the catalog.
pub record IsKeptIn (geometry : Geometry) (state : State) (image : BeforeImage) : Type 0 where
  pub not_catalog : image.part ≢ 0
  pub shape : Shape
  pub laid : shape_by geometry (state.contents 0) image.part ≡ Some shape
  pub place : IsPlaceOf shape image.place

-- The parts of the state are laid by its catalog; a part that isn't laid has no record.
pub record IsLaidState (geometry : Geometry) (state : State) : Type 0 where
  pub each : (part : ℕ) → Ascends (state.contents part)
  pub catalog : IsCatalog geometry (state.contents 0)
  pub others : (part : ℕ) → shape_by geometry (state.contents 0) part ≡ None
      → state.contents part ≡ []
  pub kept : All (IsKeptIn geometry state) state.befores

-- the place of a before-image, as the state has it logged
abbrev pub logged_of : BeforeImage → Logged
logged_of image = record { unit = image.unit; part = image.part; place = image.place }

-- the unit that a record ends isn't the current one of its deck any more
abbrev pub IsPast : (ℕ → ℕ) → LogRecord → Type 0
IsPast numbers (Before unit part place old) = Unit {0}
IsPast numbers (End unit kind) = unit.number < numbers unit.deck

abbrev pub IsCurrent : (ℕ → ℕ) → UnitOfRecovery → Type 0
IsCurrent numbers unit = unit.number ≡ numbers unit.deck

-- The log has what the units of the state logged: the before-images of the units that are live, one
-- for a place. What a unit keeps is one of them; where one was put back, its record stands there,
-- or none does.
pub record HasLogged (log : LogNow) (state : State) : Type 0 where
  pub alone : AreAlone (images_of log.records)
  pub once : AreAlone state.befores
  pub kept : (part : ℕ) (place : List ℕ) (image : BeforeImage)
      → oldest state.befores part place ≡ Some image
      → oldest (images_of log.records) part place ≡ Some image
  pub back : (part : ℕ) (place : List ℕ) (image : BeforeImage)
      → oldest (images_of log.records) part place ≡ Some image
      → oldest state.befores part place ≡ None
      → image.old ≡ standing_of (item_at (state.contents part) place)
  pub logged : map logged_of (images_of log.records) ≡ state.logged
  pub live : (unit : UnitOfRecovery)
      → is_in unit (live_in log.records) ≡ is_live state unit
  pub used : used_by log.records ≡ state.used
  pub ended : All (IsPast state.numbers) log.records
  pub current : All (λ (image : BeforeImage). IsCurrent state.numbers image.unit) state.befores

-- ---- what has to hold as a unit ends

-- Whatever a crash may leave of a place that the unit changed, it is what stands there: the blocks
-- that the unit changed were forced.
abbrev pub IsFirmFor : Geometry → LogNow → State → UnitOfRecovery → Seen → Type 0
IsFirmFor geometry log state unit now = (part : ℕ) (place : List ℕ) (image : BeforeImage)
    (shape : Shape) (found : Option Item)
    → oldest (images_of log.records) part place ≡ Some image
    → same_unit unit image.unit ≡ true → shape_by geometry (state.contents 0) part ≡ Some shape
    → MayHold shape now.may place found → found ≡ item_at (state.contents part) place

-- a unit that is backed out keeps no before-image any more
abbrev pub KeepsNoneIf : EndKind → State → UnitOfRecovery → Type 0
KeepsNoneIf Committed state unit = Unit {0}
KeepsNoneIf BackedOut state unit =
    All (λ (image : BeforeImage). same_unit unit image.unit ≡ false) state.befores

-- ---- histories

-- Of the units that keep something the log has the commits of those that count: those whose COMMIT
-- the history has, and these others, which are in their commit.
abbrev pub CountAlike : List UnitOfRecovery → List Entry → List LogRecord → State → Type 0
CountAlike others entries records state =
    All (λ (image : BeforeImage). is_counted others entries image.unit
    ≡ has_commit records image.unit) state.befores
