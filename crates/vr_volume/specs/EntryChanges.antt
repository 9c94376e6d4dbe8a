-- Several records of the catalog that are added, replaced or taken away by one unit of recovery: what
-- has to hold before, on a volume of which no unit is live, and what the state is once the unit has
-- ended (Access Method Services Commands, ALTER and DELETE, for what is there once the command is
-- done; that all of it is one event is this project's own rule).
use Rattle.std.specs.Prelude.{◌≡◌, ◌≢◌, ◌+◌, ℕ, List, [], ◌∷◌, All, IfSome, length, Option, Some}
use Rattle.std.specs.Prelude.{None, if◌then◌else◌, ◌==◌}
use Rattle.std.specs.Option.{option_map}
use Rattle.vr_types.specs.Content.{Content, Item, Standing, item_at}
use Rattle.vr_types.specs.Image.{Image}
use Rattle.vr_types.specs.Seen.{Seen}
use Rattle.vr_types.specs.declared.geometry.Geometry.{Geometry}
use Rattle.vr_types.specs.declared.unit.Unit.{Unit as UnitOfRecovery}
use Rattle.vr_space.specs.Known.{Known}
use Rattle.vr_space.specs.Part.{HasRoomFor, IsPlaceOf, IsRecordOf, MayGoBack, MayHold, Shape}
use Rattle.vr_space.specs.Part.{item_of, left_by, stage_of}
use Rattle.vr_space.specs.Room.{Lengths, length_at}
use Rattle.vr_log.specs.LogNow.{LogNow}
use Rattle.vr_log.specs.declared.record.LogRecord.{LogRecord}
use Rattle.vr_log.specs.declared.record.LogRecord.TheVariants.{Before}
use Rattle.vr_history.specs.State.{BeforeImage, State}
use Rattle.vr_volume.specs.CatalogRules.{IsCatalog}
use Rattle.vr_volume.specs.Committed.{IsCurrent}
use Rattle.vr_volume.specs.EntryChange.{is_gone, with_entry_change, without_gone}
use Rattle.vr_volume.specs.Laid.{catalog_shape, shape_by}
use Rattle.vr_volume.specs.declared.setting.EntryChange.{EntryChange}

-- ---- the changes

-- the record of the log: what stood at the place of the catalog
abbrev pub logged_for : UnitOfRecovery → EntryChange → LogRecord
logged_for unit change = Before unit (record { 0 = 0 }) change.place change.before

-- the before-image that it is
abbrev pub image_for : UnitOfRecovery → EntryChange → BeforeImage
image_for unit change = record {
  unit = unit;
  part = 0;
  place = change.place;
  old = option_map Standing change.before;
}

-- none of them is of the place
abbrev pub MissAll : List ℕ → List EntryChange → Type 0
MissAll place changes = All (λ (change : EntryChange). place ≢ change.place) changes

-- each is of another place
abbrev pub AreApart : List EntryChange → Type 0
AreApart [] = Unit {0}
AreApart (change ∷ changes) =
    All (λ (other : EntryChange). other.place ≢ change.place) changes × AreApart changes

-- whatever a crash leaves, what is said stands at its place, or nothing does
abbrev pub StandsAt : Shape → Seen → EntryChange → Type 0
StandsAt shape now change = (found : Option Item) → MayHold shape now.may change.place found
    → found ≡ option_map Standing change.before

-- what is given may stand at its place
abbrev pub MayStand : Shape → EntryChange → Type 0
MayStand shape change = IsPlaceOf shape change.place
    × IfSome change.bytes (IsRecordOf shape change.place)

-- ---- room

-- it needs no room but that which is kept at its place
abbrev pub NeedsKept : Shape → Lengths → List ℕ → Option (List ℕ) → Type 0
NeedsKept shape kept place None = Unit {0}
NeedsKept shape kept place (Some bytes) =
    (n : ℕ) × (length_at kept place ≡ Some n) × MayGoBack shape n (length bytes)

-- there is room for the first, and the others need none but what is kept
abbrev pub HaveRoom : Shape → Known → Image → Lengths → List EntryChange → Type 0
HaveRoom shape known image kept [] = Unit {0}
HaveRoom shape known image kept (change ∷ changes) =
    HasRoomFor shape known image kept change.place change.bytes
    × All (λ (other : EntryChange). NeedsKept shape kept other.place other.bytes) changes

-- They may be set in their order: no stage of a split is left at their places, and there is room.
pub record CanSetAll (shape : Shape) (known : Known) (image : Image) (kept : Lengths)
    (changes : List EntryChange) : Type 0 where
  pub no_stage : All (λ (change : EntryChange). stage_of shape known image change.place ≡ None)
      changes
  pub room : HaveRoom shape known image kept changes

-- ---- what they leave

-- Each place of them has what its change leaves there, and each other place what it had.
pub record AreSet (shape : Shape) (changes : List EntryChange) (old new : Image) : Type 0 where
  pub here : All (λ (change : EntryChange). item_of shape new change.place
      ≡ left_by shape (item_of shape old change.place) change.bytes) changes
  pub others : (place : List ℕ) → MissAll place changes
      → item_of shape new place ≡ item_of shape old place

-- ---- the state

-- the contents with all of the changes made in the catalog
abbrev pub with_changes : List EntryChange → (ℕ → Content) → ℕ → Content
with_changes [] contents = contents
with_changes (change ∷ changes) contents =
    with_changes changes (with_entry_change change.place change.bytes contents)

-- The records of entries may be added, replaced and taken away by the current unit of its deck: the
-- log has no record, each place has what is said, or nothing, and by the catalog once all of them are
-- done each part is laid as it was, but for the one that goes, which isn't laid any more. Nothing is
-- asked of the catalogs in between.
pub record CanChangeEntries (geometry : Geometry) (log : LogNow) (unit : UnitOfRecovery)
    (changes : List EntryChange) (gone : Option ℕ) (old : State) : Type 0 where
  pub current : IsCurrent old.numbers unit
  pub idle : log.records ≡ []
  pub places : All (λ (change : EntryChange). IsPlaceOf (catalog_shape geometry) change.place)
      changes
  pub apart : AreApart changes
  pub stands : All (λ (change : EntryChange). item_at (old.contents 0) change.place
      ≡ option_map Standing change.before) changes
  pub catalog : IsCatalog geometry (with_changes changes old.contents 0)
  pub lays : (part : ℕ) → shape_by geometry (with_changes changes old.contents 0) part
      ≡ (if is_gone gone part then None else shape_by geometry (old.contents 0) part)

-- All of the changes are made, the part that goes has nothing any more, and the unit has ended:
-- nothing is kept or logged.
pub record AreEntriesChanged (unit : UnitOfRecovery) (changes : List EntryChange)
    (gone : Option ℕ) (old new : State) : Type 0 where
  pub contents : (part : ℕ)
      → new.contents part ≡ without_gone gone (with_changes changes old.contents) part
  pub befores : new.befores ≡ []
  pub logged : new.logged ≡ []
  pub used : new.used ≡ 0
  pub numbers : (deck : ℕ) → new.numbers deck
      ≡ (if deck == unit.deck then old.numbers deck + 1 else old.numbers deck)
