-- What is found on the blocks of a volume as it is opened, and why one is not opened. The rules are
-- this project's own.
use Rattle.std.specs.Prelude.{◌≡◌, ◌≢◌, ◌⊎◌, ◌<◌, ◌≤◌, ◌^◌, ℕ, false, List, [], ◌∷◌, All, None}
use Rattle.std.specs.Prelude.{Some}
use Rattle.std.specs.Prelude.{Option, length, map, nat_eq, slice_get, slice_index_or}
use Rattle.std.specs.List.{IsDistinct, filter_map}
use Rattle.std.specs.List.Sorted.{IsNonDecreasingBy, IsPermutation}
use Rattle.vr_types.specs.Content.{Ascends, Content}
use Rattle.vr_types.specs.Geometry.{IsAllowed, area_count, head_block}
use Rattle.vr_types.specs.Image.{Image, block_at}
use Rattle.vr_types.specs.Seen.{Left, Seen}
use Rattle.vr_types.specs.declared.geometry.Geometry.{Geometry}
use Rattle.vr_types.specs.declared.unit.PartNo.{PartNo}
use Rattle.vr_space.specs.Part.{IsOn, OwnsChain, Shape, Stands, StandsFor, part_no}
use Rattle.vr_catalog.specs.Catalog.{entries_in, parts_in}
use Rattle.vr_catalog.specs.Definition.{catalog_definition}
use Rattle.vr_catalog.specs.declared.entry.CatEntry.{CatEntry}
use Rattle.vr_attach.specs.CatalogRules.{IsCatalog}
use Rattle.vr_attach.specs.Linked.{IsLinkedShown}
use Rattle.vr_attach.specs.Laid.{AreApart, HasArea, IsReachedElsewhere, catalog_shape, keyed_part}
use Rattle.vr_attach.specs.Laid.{shape_by, shape_in, shape_of}
use Rattle.vr_attach.specs.Owning.{owner_of}
use Rattle.vr_edits.specs.Edits.{IsServedEntry}
use Rattle.vr_history.specs.State.{BeforeImage}
use Rattle.vr_log.specs.Content.{Content as LogContent}
use Rattle.vr_log.specs.Damage.{IsDamagedAt}
use Rattle.vr_log.specs.LogNow.{IsForced, IsOf, LogNow}
use Rattle.vr_log.specs.Spells.{Spells}
use Rattle.vr_log.specs.Standing.{LogStands}
use Rattle.vr_mount.specs.Areas.{AreOn, AreOwners, IsLaidIn}
use Rattle.vr_mount.specs.Header.{IsDamagedHeader, IsHeaderOf, version_in}
use Rattle.vr_part.specs.Any.{known_any, shape_any}
use Rattle.vr_part.specs.Attached.{IsAnyShown}
use Rattle.vr_part.specs.declared.any.AnyPart.{AnyPart}
use Rattle.vr_volume.specs.PutBack.{images_of}
use Rattle.vr_recover.specs.Recovered.{standing_all}
use Rattle.vr_volume.specs.Volume.{Recovers}
use Rattle.vr_recover.specs.Images.{CannotGoBack, catalog_by}
use Rattle.vr_recover.specs.Recovered.{KeepsAll}
pub use Rattle.vr_recover.specs.Recovered.{IsRecovered}
use Rattle.vr_recover.specs.Undone.{IsLaidPastLog, IsReady, IsUndone}
use Rattle.vr_recover.specs.Unserved.{IsUnserved}
use Rattle.vr_recover.specs.declared.open_no.OpenNo.{OpenNo}
use Rattle.vr_recover.specs.declared.open_no.OpenNo.TheVariants.{Damaged, Version, Unserved, Read}
use Rattle.vr_recover.specs.declared.open_no.OpenNo.TheVariants.{Write}
use Rattle.vr_recover.specs.declared.open_no.OpenNo.TheVariants.{Memory}

-- ---- what is found

-- The blocks are those of a volume of this number and shape, and recover to these contents.
pub record IsVolume (number : ℕ) (geometry : Geometry) (contents : ℕ → Content) (now : Seen)
    : Type 0
  where
    pub allowed : IsAllowed geometry
    pub shape : IsOf geometry now
    pub recovers : Recovers geometry number now.cur contents

-- they are those of no volume of this number
abbrev pub IsNoVolume : ℕ → Seen → Type 0
IsNoVolume number now = (geometry : Geometry) (contents : ℕ → Content)
    → IsVolume number geometry contents now → ⊥

-- The blocks are those of a volume of this number and shape, and have these contents, as an opening
-- hands them out: a part that isn't laid has nothing.
pub record HasContents (number : ℕ) (geometry : Geometry) (contents : ℕ → Content) (now : Seen)
    : Type 0 where
  pub volume : IsVolume number geometry (standing_all contents) now
  pub whole : IsRecovered geometry number contents now.cur
  pub ascends : (part : ℕ) → Ascends (contents part)
  pub others : (part : ℕ) → shape_by geometry (contents 0) part ≡ None → contents part ≡ []

-- What an image has while they are opened: it is one that a crash left before, or recovers to the
-- records of the contents and keeps what is withdrawn in them where the log had nothing to put
-- back.
abbrev pub IsLeftOpening : (number : ℕ) (geometry : Geometry) (contents : ℕ → Content) (old : Seen)
    → HasContents number geometry contents old → Image → Type 0
IsLeftOpening number geometry contents old has image = Left old image
    ⊎ KeepsAll geometry number (images_of has.whole.log.records) contents image

-- ---- which block and which rule are shown

-- rule 1: block 0 is no header of a volume of this number, of any shape
pub record IsHeaderShown (number : ℕ) (now : Seen) (block rule : ℕ) : Type 0 where
  pub block_is : block ≡ 0
  pub rule_is : rule ≡ 1
  pub damaged : IsDamagedHeader now.count now.size number (block_at now.cur 0)

-- rule 2: the first block of the log that is misspelled
pub record IsLogShown (geometry : Geometry) (now : Seen) (block rule : ℕ) : Type 0 where
  pub rule_is : rule ≡ 2
  pub damaged : IsDamagedAt geometry now.cur block

-- As the part of this number is read, the area is that of another part: the first one of any, or
-- one that a part of a lesser number reaches.
pub data IsTaken (geometry : Geometry) (entries : List CatEntry) (image : Image) (part area : ℕ)
    : Type 0 where
  AsFirst : (other : ℕ) → other ≢ part → IsLaidIn geometry entries other area
      → IsTaken geometry entries image part area
  AsReached : (reached : IsReachedElsewhere geometry (shape_in geometry entries) image part area)
      → reached.other < part → IsTaken geometry entries image part area

-- The part of an entry is damaged, and none of a lesser number is: its block is the first that
-- breaks a rule, and this is the least that it breaks.
pub record IsEntryShown (geometry : Geometry) (entries : List CatEntry) (now : Seen)
    (block rule : ℕ) : Type 0 where
  pub part : ℕ
  pub shape : Shape
  pub laid : shape_in geometry entries part ≡ Some shape
  pub before : (other : ℕ) (one : Shape) → other < part → shape_in geometry entries other ≡ Some one
      → Stands one now.cur
  pub shown : IsAnyShown shape (IsTaken geometry entries now.cur part) now.cur block rule

-- The catalog's own part is damaged, whichever areas other parts have: its block is the first that
-- breaks a rule, and this is the least that it breaks.
abbrev pub IsCatalogPartShown : Geometry → Image → ℕ → ℕ → Type 0
IsCatalogPartShown geometry image block rule =
    IsLinkedShown (keyed_part geometry 0 0 catalog_definition) (λ area. ⊥) image block rule

-- rules 3 to 14: the first block of a part that breaks a rule, and the least that it breaks: of the
-- catalog's own part, or of one that is laid by a content for which the catalog's blocks stand,
-- once these before-images are put back in it
pub data IsPartShown (geometry : Geometry) (images : List BeforeImage) (now : Seen)
    (block rule : ℕ) : Type 0 where
  OfCatalog : IsCatalogPartShown geometry now.cur block rule
      → IsPartShown geometry images now block rule
  OfEntry : (content : Content) → StandsFor (catalog_shape geometry) now.cur content
      → IsEntryShown geometry (entries_in (catalog_by images content)) now block rule
      → IsPartShown geometry images now block rule

-- whatever the catalog's blocks stand for, once these before-images are put back in it, breaks a rule
-- that all catalogs keep
abbrev pub IsNoneOf : Geometry → List BeforeImage → Seen → (Content → Type 0) → Type 0
IsNoneOf geometry images now Keeps = (content : Content)
    → StandsFor (catalog_shape geometry) now.cur content → Keeps (catalog_by images content) → ⊥

-- rules 17 and 18 are shown as 17, at the head of the catalog, whose blocks stand: what it has isn't
-- a catalog
pub record IsCatalogShown (geometry : Geometry) (images : List BeforeImage) (now : Seen)
    (block rule : ℕ) : Type 0 where
  pub block_is : block ≡ head_block geometry 0
  pub rule_is : rule ≡ 17
  pub stands : Stands (catalog_shape geometry) now.cur
  pub damaged : IsNoneOf geometry images now (IsCatalog geometry)

-- rule 3 at the head of the catalog, whose blocks stand, and which names an area that the volume
-- hasn't
pub record IsAreaShown (geometry : Geometry) (images : List BeforeImage) (now : Seen)
    (block rule : ℕ) : Type 0 where
  pub block_is : block ≡ head_block geometry 0
  pub rule_is : rule ≡ 3
  pub stands : Stands (catalog_shape geometry) now.cur
  pub damaged : IsNoneOf geometry images now (λ content. AreOn geometry (entries_in content))

-- rule 4 at the head of the catalog, whose blocks stand, and which names an area twice
pub record IsTwiceShown (geometry : Geometry) (images : List BeforeImage) (now : Seen)
    (block rule : ℕ) : Type 0 where
  pub block_is : block ≡ head_block geometry 0
  pub rule_is : rule ≡ 4
  pub stands : Stands (catalog_shape geometry) now.cur
  pub damaged : IsNoneOf geometry images now (λ content. AreApart (shape_by geometry content))

-- the shapes of the parts that these entries lay, in their order, the catalog's own first
abbrev pub shapes_laid : Geometry → List CatEntry → List Shape
shapes_laid geometry entries = catalog_shape geometry ∷ filter_map (shape_of geometry) entries

-- rule 19 at the first block of the log: these before-images can't be put back into the parts that
-- the catalog's blocks lay, once they are put back in it
pub record IsImageShown (geometry : Geometry) (images : List BeforeImage) (now : Seen)
    (block rule : ℕ) : Type 0 where
  pub block_is : block ≡ 1
  pub rule_is : rule ≡ 19
  pub catalog : Content
  pub stands : StandsFor (catalog_shape geometry) now.cur catalog
  pub damaged : CannotGoBack images
      (shapes_laid geometry (entries_in (catalog_by images catalog))) now.cur

-- what is shown of a volume whose header is in order, and whose log has these before-images of live
-- units
pub data IsShownPast (geometry : Geometry) (images : List BeforeImage) (now : Seen)
    (block rule : ℕ) : Type 0 where
  InPart : IsPartShown geometry images now block rule
      → IsShownPast geometry images now block rule
  InCatalog : IsCatalogShown geometry images now block rule
      → IsShownPast geometry images now block rule
  InArea : IsAreaShown geometry images now block rule
      → IsShownPast geometry images now block rule
  Twice : IsTwiceShown geometry images now block rule
      → IsShownPast geometry images now block rule
  InImages : IsImageShown geometry images now block rule
      → IsShownPast geometry images now block rule

-- what is shown of a volume whose header is in order: its log, or something by what the log has
pub data IsShownOf (geometry : Geometry) (now : Seen) (block rule : ℕ) : Type 0 where
  InLog : IsLogShown geometry now block rule → IsShownOf geometry now block rule
  PastLog : (log : LogContent) → Spells geometry now.cur log
      → IsShownPast geometry (images_of log.records) now block rule
      → IsShownOf geometry now block rule

-- ---- why a volume is not opened

-- a block that breaks a rule, where block 0 is the header of this shape
pub record IsShownIn (number : ℕ) (now : Seen) (block rule : ℕ) : Type 0 where
  pub geometry : Geometry
  pub header : IsHeaderOf now.count now.size number (block_at now.cur 0) geometry
  pub shown : IsShownOf geometry now block rule

-- The blocks are those of no volume of this number, and this block breaks this rule.
pub record IsDamaged (number : ℕ) (now : Seen) (block rule : ℕ) : Type 0 where
  pub none : IsNoVolume number now
  pub shown : IsHeaderShown number now block rule ⊎ IsShownIn number now block rule

-- They are those of no volume of this number, and block 0 states this other version.
pub record IsOfVersion (number : ℕ) (now : Seen) (found : ℕ) : Type 0 where
  pub none : IsNoVolume number now
  pub stated : version_in (block_at now.cur 0) ≡ Some found
  pub other : found ≢ 1

abbrev pub IsRefused : ℕ → Seen → OpenNo → Type 0
IsRefused number now (Damaged block rule) = IsDamaged number now block rule
IsRefused number now (Version found) = IsOfVersion number now found
IsRefused number now (Unserved block cause) = IsUnserved number now block cause
IsRefused number now Read = Unit {0}
IsRefused number now Write = Unit {0}
IsRefused number now Memory = Unit {0}

-- ---- what is handed out

-- the areas that a part has are its own by who owns the areas
abbrev pub OwnsAreas : Geometry → List (Option PartNo) → AnyPart → Type 0
OwnsAreas geometry owners part = (area : ℕ)
    → HasArea geometry (shape_any part) (known_any part) area
    → slice_index_or owners area None ≡ Some (part_no (shape_any part))

-- One of these parts is of this number, and has the area.
pub record IsHeldBy (geometry : Geometry) (parts : List AnyPart) (part : PartNo) (area : ℕ) : Type 0
  where
    pub at : ℕ
    pub one : AnyPart
    pub there : slice_get parts at ≡ Some one
    pub number : part_no (shape_any one) ≡ part
    pub has : HasArea geometry (shape_any one) (known_any one) area

-- Each area that a part has is owned by it, each owned area is one that its part has, and a part
-- has as many as it owns.
pub record AreOwnersBy (geometry : Geometry) (parts : List AnyPart)
    (owners : List (Option PartNo)) : Type 0 where
  pub count : length owners ≡ area_count geometry
  pub owned : All (OwnsAreas geometry owners) parts
  pub only : (part : PartNo) (area : ℕ) → slice_index_or owners area None ≡ Some part
      → IsHeldBy geometry parts part area
  pub owns : All (λ (part : AnyPart). OwnsChain (shape_any part) (known_any part) owners) parts

-- a part has no split of an interval or of an area under way
abbrev pub HasNoSplit : AnyPart → Type 0
HasNoSplit part = ((known_any part).split ≡ None) × ((known_any part).move ≡ None)

-- Each of these shapes is laid by the entries as its part, and each part that they lay is one of
-- them.
pub record AreLaid (geometry : Geometry) (entries : List CatEntry) (shapes : List Shape) : Type 0
  where
    pub each : All (λ (shape : Shape). shape_in geometry entries (part_no shape).0 ≡ Some shape)
        shapes
    pub all : (part : ℕ) (shape : Shape) → shape_in geometry entries part ≡ Some shape
        → (part_no shape).0 ≡ part
    pub there : (part : ℕ) (shape : Shape) → shape_in geometry entries part ≡ Some shape
        → (at : ℕ) × (slice_get shapes at ≡ Some shape)

abbrev pub number_of : CatEntry → ℕ
number_of entry = entry.part.0

-- The entries in the order of their part numbers.
pub record AreByNumber (entries ordered : List CatEntry) : Type 0 where
  pub same : IsPermutation entries ordered
  pub ascend : IsNonDecreasingBy number_of ordered

-- The shapes are those of the parts that the entries lay, in the order of their numbers: the
-- catalog's own is the first.
pub record AreShapesOf (geometry : Geometry) (entries : List CatEntry) (shapes : List Shape)
    : Type 0
  where
    pub ordered : List CatEntry
    pub by_number : AreByNumber entries ordered
    pub are : shapes ≡ shapes_laid geometry ordered

-- What is handed out, whatever the blocks have: the catalog has clusters with records that have
-- room in an interval, alternate indexes that aren't built, and paths; the parts are those that it
-- lays, in the order of their numbers, each on blocks of the volume past the log, in areas that are
-- its own, and the log has no record.
pub record IsHandedOut (geometry : Geometry) (entries : List CatEntry) (parts : List AnyPart)
    (log : LogNow) (owners : List (Option PartNo)) (now : Seen) : Type 0 where
  pub allowed : IsAllowed geometry
  pub shape : IsOf geometry now
  pub log_is : log.geometry ≡ geometry
  pub sound : log.broken ≡ false
  pub forced : IsForced log
  pub records : log.records ≡ []
  pub generation : log.generation ≤ 2 ^ 62
  pub distinct : IsDistinct nat_eq (0 ∷ parts_in entries)
  pub served : All (IsServedEntry geometry) entries
  pub shapes : AreShapesOf geometry entries (map shape_any parts)
  pub laid : AreLaid geometry entries (map shape_any parts)
  pub on : All (λ (shape : Shape). IsOn shape now) (map shape_any parts)
  pub past : All (IsLaidPastLog geometry) (map shape_any parts)
  pub split : All HasNoSplit parts
  pub owners_are : AreOwnersBy geometry parts owners

-- And by what the blocks had and have: they were a volume's, which recovered to the records of
-- these contents, and are now a safe one's, with these committed and without units of recovery.
-- What was withdrawn is where the blocks had it, and where an added record of an entry-sequenced
-- part was taken out. Each part is ready. Both are so by who owns the areas: each area is its whose
-- blocks reach it.
pub record IsOpenedBy (number : ℕ) (geometry : Geometry) (entries : List CatEntry)
    (parts : List AnyPart) (log : LogNow) (owners : List (Option PartNo))
    (contents : ℕ → Content) (old new : Seen) : Type 0 where
  pub volume : IsVolume number geometry (standing_all contents) old
  pub whole : IsRecovered geometry number contents old.cur
  pub undone : IsUndone number (owner_of geometry owners) log contents new
  pub stands : LogStands log new
  pub ready : All (λ (part : AnyPart). IsReady (shape_any part) (owner_of geometry owners)
      (known_any part) [] new) parts
  pub owners_are : AreOwners geometry entries new.cur owners
  pub catalog : entries ≡ entries_in (contents 0)
  pub rules : IsCatalog geometry (contents 0)
  pub apart : AreApart (shape_by geometry (contents 0))
  pub ascends : (part : ℕ) → Ascends (contents part)
  pub others : (part : ℕ) → shape_by geometry (contents 0) part ≡ None → contents part ≡ []

-- some contents
abbrev pub IsOpened : ℕ → Geometry → List CatEntry → List AnyPart → LogNow → List (Option PartNo)
    → Seen → Seen → Type 0
IsOpened number geometry entries parts log owners old new = (contents : ℕ → Content)
    × IsOpenedBy number geometry entries parts log owners contents old new
