-- What the steps of opening find, for the private functions that take them. The rules are this
-- project's own.
use Rattle.std.specs.Prelude.{◌≡◌, ◌<◌, ◌≤◌, ◌^◌, ℕ, List, [], All, None, Option, Some, length}
use Rattle.std.specs.Prelude.{◌⊎◌, ◌∷◌, nat_eq, map, slice_index_or, take, false, IfSome}
use Rattle.std.specs.Borrow.{Bor}
use Rattle.std.specs.List.{IsDistinct}
use Rattle.vr_types.specs.Content.{Content}
use Rattle.vr_types.specs.Geometry.{area_count, head_block}
use Rattle.vr_types.specs.Image.{Image, block_at}
use Rattle.vr_types.specs.LogSpace.{log_size}
use Rattle.vr_types.specs.Seen.{Seen}
use Rattle.vr_types.specs.declared.geometry.Geometry.{Geometry}
use Rattle.vr_types.specs.declared.unit.PartNo.{PartNo}
use Rattle.vr_space.specs.Owners.{Owners}
use Rattle.vr_space.specs.Part.{IsOn, IsPlaceOf, OwnsChain, Shape, Stands, StandsFor, owned_count}
use Rattle.vr_space.specs.Part.{held_by, part_no}
use Rattle.vr_catalog.specs.Catalog.{cluster_definition, entries_in, parts_in}
use Rattle.vr_catalog.specs.Definition.{catalog_definition}
use Rattle.vr_catalog.specs.declared.definition.Definition.{Definition}
use Rattle.vr_catalog.specs.declared.entry.CatEntry.{CatEntry}
use Rattle.vr_attach.specs.CatalogRules.{IsCatalog}
use Rattle.vr_attach.specs.Header.{header_block}
use Rattle.vr_attach.specs.Laid.{AreApart, HasArea, catalog_shape, keyed_part, shape_by_kind}
use Rattle.vr_attach.specs.Laid.{shape_in, shape_of}
use Rattle.vr_edits.specs.Edits.{IsServedEntry}
use Rattle.vr_history.specs.State.{BeforeImage}
use Rattle.vr_keyed.specs.Attached.{IsAttachedTo}
use Rattle.vr_keyed.specs.Owned.{Owned}
use Rattle.vr_log.specs.Content.{Content as LogContent}
use Rattle.vr_log.specs.Live.{used_by}
use Rattle.vr_log.specs.LogNow.{IsForced, IsOf, LogNow}
use Rattle.vr_log.specs.Records.{HasFields, bytes_of as log_bytes}
use Rattle.vr_log.specs.Spells.{Spells}
use Rattle.vr_log.specs.declared.record.LogRecord.{LogRecord}
use Rattle.vr_mount.specs.Areas.{AreOn, AreOwners, BeginsWith, IsLaidIn}
use Rattle.vr_mount.specs.Numbers.{laid_area}
use Rattle.vr_mount.specs.Records.{bytes_of}
use Rattle.vr_part.specs.Any.{known_any, shape_any}
use Rattle.vr_part.specs.Attached.{IsAttachedWith}
use Rattle.vr_part.specs.declared.any.AnyPart.{AnyPart}
use Rattle.vr_part.specs.declared.any.AnyPart.TheVariants.{Keyed}
use Rattle.vr_volume.specs.PutBack.{AreAlone, images_of, lengths_kept, put_back}
pub use Rattle.vr_recover.specs.Images.{CannotGoBack, HasRoomOf, IsNamed, MayGoBack, catalog_by}
pub use Rattle.vr_recover.specs.Images.{name_in, named}
use Rattle.vr_recover.specs.Opening.{AreOwnersBy, HasNoSplit, IsCatalogPartShown, IsCatalogShown}
use Rattle.vr_recover.specs.Opening.{IsEntryShown}
use Rattle.vr_recover.specs.Opening.{AreShapesOf, IsHeldBy, OwnsAreas, shapes_laid}
use Rattle.vr_recover.specs.Undone.{FitsPart, HasPart, HaveOwnNumbers, IsReady}
use Rattle.vr_recover.specs.declared.open_no.OpenNo.{OpenNo}
use Rattle.vr_recover.specs.declared.open_no.OpenNo.TheVariants as nos
use Rattle.vr_recover.specs.declared.open_no.OpenNo.TheVariants.{Damaged, Version, Read, Write}
use Rattle.vr_recover.specs.declared.open_no.OpenNo.TheVariants.{Memory}
use Rattle.vr_recover.specs.declared.open_no.Unserved.{Unserved}
use Rattle.vr_recover.specs.Unserved.{IsEntryCause, IsPlain}

-- an answer that says of the blocks what P does where they are damaged, and Q where they aren't
-- served
abbrev pub ShowsBoth : (ℕ → ℕ → Type 0) → (ℕ → Unserved → Type 0) → OpenNo → Type 0
ShowsBoth P Q (Damaged block rule) = P block rule
ShowsBoth P Q (Version found) = ⊥
ShowsBoth P Q (nos.Unserved block cause) = Q block cause
ShowsBoth P Q Read = Unit {0}
ShowsBoth P Q Write = Unit {0}
ShowsBoth P Q Memory = Unit {0}

-- an answer that says of the blocks what P does
abbrev pub ShowsOnly : (ℕ → ℕ → Type 0) → OpenNo → Type 0
ShowsOnly P = ShowsBoth P (λ block cause. ⊥)

-- ---- the log

-- A log that was read and may be gone on with.
pub record IsLogFound (geometry : Geometry) (content : LogContent) : Type 0 where
  pub fields : All HasFields content.records
  pub size : length (log_bytes content.records) ≤ log_size geometry
  pub young : content.generation < 2 ^ 63
  pub room : used_by content.records ≤ log_size geometry

-- ---- the parts

-- parts as they were attached know of their blocks what these have
abbrev pub AreKnown : List AnyPart → Image → Type 0
AreKnown parts image =
    All (λ (part : AnyPart). IsAttachedWith (shape_any part) (known_any part) image) parts

-- the blocks of parts of these shapes stand for contents
abbrev pub AllStand : List Shape → Image → Type 0
AllStand shapes image = All (λ (shape : Shape). Stands shape image) shapes

-- An entry lays its part from this area on, by this definition.
pub record LaysIn (entry : CatEntry) (area : ℕ) (definition : Definition) : Type 0 where
  pub area_is : laid_area entry ≡ Some area
  pub definition_is : cluster_definition entry.entry_kind entry ≡ Some definition
  pub shape : (geometry : Geometry) → shape_of geometry entry
      ≡ shape_by_kind geometry entry.part.0 area definition definition.kind

-- where an entry lays its part, if it does
abbrev pub LaysAs : CatEntry → Option (ℕ × Definition) → Type 0
LaysAs entry None = (geometry : Geometry) → shape_of geometry entry ≡ None
LaysAs entry (Some found) = LaysIn entry found.0 found.1

-- a record of the longest length of a cluster has a byte
abbrev pub HasLength : CatEntry → Type 0
HasLength entry = IfSome (cluster_definition entry.entry_kind entry)
    (λ (definition : Definition). 0 < definition.maximum)

-- ---- the walk over the entries

-- entries that stay in their catalog
abbrev pub held_entries : List (Bor CatEntry) → List CatEntry
held_entries entries = map (λ (entry : Bor CatEntry). entry.now) entries

-- a part has its first area
abbrev pub HasFirst : Geometry → AnyPart → Type 0
HasFirst geometry part = (area : ℕ) → BeginsWith (head_block geometry area) (shape_any part)
    → HasArea geometry (shape_any part) (known_any part) area

-- The catalog's own part alone, as it is attached.
pub record IsFirstAlone (geometry : Geometry) (parts : List AnyPart) : Type 0 where
  pub own : Owned
  pub is : parts ≡ Keyed own ∷ []
  pub attached : IsAttachedTo (keyed_part geometry 0 0 catalog_definition) own

-- What the walk begins with, whatever the blocks have: entries whose parts are distinct, on areas
-- of the volume, with records that have room. It goes by their part numbers.
pub record MayAdd (geometry : Geometry) (entries : List CatEntry) : Type 0 where
  pub distinct : IsDistinct nat_eq (0 ∷ parts_in entries)
  pub on : AreOn geometry entries
  pub plain : All (IsPlain geometry) entries
  pub lengths : All HasLength entries

-- These parts are attached, and the areas that they have are marked as theirs, beside the first
-- area of each part that isn't attached yet.
pub record AreAttached (geometry : Geometry) (entries : List CatEntry) (parts : List AnyPart)
    (owners : List (Option PartNo)) : Type 0 where
  pub split : All HasNoSplit parts
  pub count : length owners ≡ area_count geometry
  pub firsts : All (HasFirst geometry) parts
  pub owned : All (OwnsAreas geometry owners) parts
  pub laid : (part : PartNo) (area : ℕ) → IsLaidIn geometry entries part.0 area
      → slice_index_or owners area None ≡ Some part
  pub only : (part : PartNo) (area : ℕ) → slice_index_or owners area None ≡ Some part
      → IsLaidIn geometry entries part.0 area ⊎ IsHeldBy geometry parts part area
  pub owns : All (λ (part : AnyPart). OwnsChain (shape_any part) (known_any part) owners) parts
  pub alone : (part : PartNo) (area : ℕ) → IsLaidIn geometry entries part.0 area
      → (HasPart (map shape_any parts) part.0 → ⊥) → owned_count part owners ≡ 1

-- The catalog's own part and those of the first entries, up to this index, are attached.
pub record AreAdded (geometry : Geometry) (entries : List CatEntry) (at : ℕ)
    (parts : List AnyPart) (owners : List (Option PartNo)) : Type 0 where
  pub shapes : map shape_any parts ≡ shapes_laid geometry (take at entries)
  pub attached : AreAttached geometry entries parts owners

-- the entries of whatever the catalog's blocks stand for, once these before-images are put back in
-- it: which is a catalog's content
abbrev pub AreEntriesOf : Geometry → List BeforeImage → Image → List CatEntry → Type 0
AreEntriesOf geometry images image entries = (content : Content)
    → StandsFor (catalog_shape geometry) image content
    → (entries ≡ entries_in (catalog_by images content))
    × IsCatalog geometry (catalog_by images content)

-- the same of a content with these records, each at its name
abbrev pub AreEntriesBack : Geometry → List BeforeImage → List (List ℕ) → List CatEntry → Type 0
AreEntriesBack geometry images records entries =
    (entries ≡ entries_in (put_back 0 images (named records)))
    × IsCatalog geometry (put_back 0 images (named records))

-- the entries by the catalog's records
abbrev pub AreEntriesBy : Geometry → List (List ℕ) → List CatEntry → Type 0
AreEntriesBy geometry records entries = (content : Content) → bytes_of content ≡ records
    → (entries ≡ entries_in content) × IsCatalog geometry content

-- records of no catalog are shown at its head
pub record IsNoneBy (geometry : Geometry) (records : List (List ℕ)) (block rule : ℕ) : Type 0 where
  pub block_is : block ≡ head_block geometry 0
  pub rule_is : rule ≡ 17
  pub damaged : (content : Content) → bytes_of content ≡ records → IsCatalog geometry content → ⊥

-- records that are those of no catalog, once these before-images are put back, are shown at its
-- head
pub record IsNoneBack (geometry : Geometry) (images : List BeforeImage) (records : List (List ℕ))
    (block rule : ℕ) : Type 0 where
  pub block_is : block ≡ head_block geometry 0
  pub rule_is : rule ≡ 17
  pub damaged : IsCatalog geometry (put_back 0 images (named records)) → ⊥

-- before-images of the catalog's own part that can't be put back are shown at the first block of
-- the log
pub record IsOwnBackNo (geometry : Geometry) (images : List BeforeImage) (block rule : ℕ) : Type 0
  where
    pub block_is : block ≡ 1
    pub rule_is : rule ≡ 19
    pub damaged : All (FitsPart (catalog_shape geometry)) images → ⊥

-- what is shown of the catalog's records, with the before-images
abbrev pub IsBackShown : Geometry → List BeforeImage → List (List ℕ) → ℕ → ℕ → Type 0
IsBackShown geometry images records block rule = IsOwnBackNo geometry images block rule
    ⊎ IsNoneBack geometry images records block rule

-- entries that name an area that the volume hasn't, or one twice, are shown at the catalog's head
abbrev pub IsAreaNo : Geometry → List CatEntry → ℕ → ℕ → Type 0
IsAreaNo geometry entries block rule = (block ≡ head_block geometry 0)
    × (((rule ≡ 3) × (AreOn geometry entries → ⊥))
    ⊎ ((rule ≡ 4) × (AreApart (shape_in geometry entries) → ⊥)))

-- entries that aren't served are shown at the catalog's head
abbrev pub IsEntryNo : Geometry → List CatEntry → ℕ → Unserved → Type 0
IsEntryNo geometry entries block cause = (block ≡ head_block geometry 0)
    × IsEntryCause geometry entries cause

-- The parts that a catalog lays, its own first, and that they may be laid so.
pub record IsMounted (geometry : Geometry) (entries : List CatEntry) (parts : List AnyPart)
    (owners : List (Option PartNo)) : Type 0 where
  pub shapes : AreShapesOf geometry entries (map shape_any parts)
  pub split : All HasNoSplit parts
  pub owned : AreOwnersBy geometry parts owners
  pub may : MayAdd geometry entries
  pub apart : AreApart (shape_in geometry entries)
  pub served : All (IsServedEntry geometry) entries

-- These are the catalog's entries, and no part number comes twice in them.
pub record AreEntries (geometry : Geometry) (images : List BeforeImage) (now : Seen)
    (entries : List CatEntry) : Type 0 where
  pub entries_are : AreEntriesOf geometry images now.cur entries
  pub distinct : IsDistinct nat_eq (0 ∷ parts_in entries)

-- entries of the catalog, whose blocks stand, that lay a part in an area that isn't there, or in one
-- twice
pub record IsAreaOf (geometry : Geometry) (images : List BeforeImage) (now : Seen)
    (block rule : ℕ) : Type 0 where
  pub entries : List CatEntry
  pub are : AreEntries geometry images now entries
  pub stands : Stands (catalog_shape geometry) now.cur
  pub shown : IsAreaNo geometry entries block rule

-- the part of an entry of the catalog, where each is on blocks of the volume
pub record IsLaidShown (geometry : Geometry) (images : List BeforeImage) (now : Seen)
    (block rule : ℕ) : Type 0 where
  pub entries : List CatEntry
  pub are : AreEntries geometry images now entries
  pub stands : Stands (catalog_shape geometry) now.cur
  pub shown : IsEntryShown geometry entries now block rule

-- what is shown while the parts are attached
pub data IsMountShown (geometry : Geometry) (images : List BeforeImage) (now : Seen)
    (block rule : ℕ) : Type 0 where
  AtCatalog : IsCatalogPartShown geometry now.cur block rule
      → IsMountShown geometry images now block rule
  AtImages : Stands (catalog_shape geometry) now.cur → IsOwnBackNo geometry images block rule
      → IsMountShown geometry images now block rule
  Misspelled : IsCatalogShown geometry images now block rule
      → IsMountShown geometry images now block rule
  AtAreas : IsAreaOf geometry images now block rule → IsMountShown geometry images now block rule
  AtPart : IsLaidShown geometry images now block rule → IsMountShown geometry images now block rule

-- ---- the before-images

-- the places of what is kept of a part are its own
abbrev pub AreItsPlaces : List BeforeImage → Shape → Type 0
AreItsPlaces images shape = All (λ (entry : List ℕ × ℕ). IsPlaceOf shape entry.0)
    (lengths_kept images (part_no shape).0)

-- before-images that can't be put back are shown at the first block of the log
abbrev pub IsBackNo : List BeforeImage → List Shape → Image → ℕ → ℕ → Type 0
IsBackNo images shapes image block rule = (block ≡ 1) × (rule ≡ 19)
    × CannotGoBack images shapes image

-- ---- all of it

-- What was found, whatever the blocks have: parts of these shapes are laid by these entries, and
-- the before-images of the log may be put back into them.
pub record IsPlanned (geometry : Geometry) (content : LogContent) (entries : List CatEntry)
    (shapes : List Shape) : Type 0 where
  pub shapes_are : AreShapesOf geometry entries shapes
  pub may : MayAdd geometry entries
  pub apart : AreApart (shape_in geometry entries)
  pub served : All (IsServedEntry geometry) entries
  pub back : MayGoBack (images_of content.records) shapes

-- And by what the blocks have: the header, the log, the catalog with its before-images put back,
-- the parts with their room, and whose each area is.
pub record IsFound (geometry : Geometry) (number : ℕ) (content : LogContent)
    (entries : List CatEntry) (shapes : List Shape) (owners : List (Option PartNo))
    (image : Image) : Type 0 where
  pub header : block_at image 0 ≡ header_block geometry number
  pub spelled : Spells geometry image content
  pub entries_are : AreEntriesOf geometry (images_of content.records) image entries
  pub stand : AllStand shapes image
  pub rooms : All (HasRoomOf (images_of content.records) image) shapes
  pub owned : AreOwners geometry entries image owners

-- ---- what is undone

-- The before-images of this log may be put back into these parts, whatever the blocks have.
pub record IsUndoable (log : LogNow) (records : List LogRecord) (parts : List AnyPart)
    (images : List BeforeImage) (now : Seen) : Type 0 where
  pub on : All (λ (shape : Shape). IsOn shape now) (map shape_any parts)
  pub apart : HaveOwnNumbers (map shape_any parts)
  pub split : All HasNoSplit parts
  pub sound : log.broken ≡ false
  pub shape : IsOf log.geometry now
  pub records_are : records ≡ log.records
  pub forced : IsForced log
  pub fits : All (λ (shape : Shape). All (FitsPart shape) images) (map shape_any parts)
  pub images_are : images ≡ images_of log.records
  pub alone : AreAlone (images_of log.records)

-- a part is ready, with room for those of these that are its own
abbrev pub IsPartReady : Owners → List BeforeImage → Seen → AnyPart → Type 0
IsPartReady owners images now part = IsReady (shape_any part) owners (known_any part)
    (lengths_kept images (part_no (shape_any part)).0) now

-- the areas that a part holds, as it keeps them in memory
abbrev pub held_any : AnyPart → List ℕ
held_any part = held_by (shape_any part) (known_any part)

-- those of each of these parts
abbrev pub areas_kept : List AnyPart → List (List ℕ)
areas_kept parts = map held_any parts
