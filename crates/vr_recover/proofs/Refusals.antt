-- What is shown as a volume is opened refuses it.
use Rattle.std.proofs.Common.{◌≡◌, ⊎_elim, inl, inr, ℕ, ◌<◌, ◌≤◌, Bool, true, false}
use Rattle.std.proofs.Common.{List, [], ◌∷◌, Option, Some, None, length, refl, sym, ap, subst, ◌∙◌}
use Rattle.std.proofs.Common.{arith, cond, get_or}
use Rattle.std.specs.Prelude.{All, nat_eq, slice_get}
use Rattle.std.specs.List.{IsDistinct, cons_option, filter_map}
use Rattle.std.specs.Option.{option_and_then}
use Rattle.std.proofs.lemmas.Bool.{eqb-true}
use Rattle.std.proofs.lemmas.List.Elements.{All-cons, All-head, All-nil, All-tail}
use Rattle.std.proofs.lemmas.Option.{get_or_from_slice_get, slice_get_within}
use Rattle.vr_types.specs.Content.{Content, record_of}
use Rattle.vr_types.specs.Geometry.{IsAllowed}
use Rattle.vr_types.specs.Image.{Image, block_at}
use Rattle.vr_types.specs.Seen.{Left, Seen}
use Rattle.vr_types.specs.declared.geometry.Geometry.{Geometry}
use Rattle.vr_types.proofs.CallerLemmas.{block_size_least}
use Rattle.vr_catalog.specs.Catalog.{entries_in, parts_in}
use Rattle.vr_catalog.specs.declared.entry.CatEntry.{CatEntry}
use Rattle.vr_attach.specs.Header.{header_block}
use Rattle.vr_attach.specs.Laid.{AreApart, catalog_shape, shape_in, shape_of}
use Rattle.vr_history.specs.State.{BeforeImage}
use Rattle.vr_log.specs.Content.{Content as LogContent}
use Rattle.vr_log.specs.Live.{live_in}
use Rattle.vr_log.specs.LogNow.{IsOf}
use Rattle.vr_log.specs.Spells.{Spells}
use Rattle.vr_log.specs.declared.record.LogRecord.{LogRecord}
use Rattle.vr_log.specs.declared.record.LogRecord.TheVariants.{Before, End}
use Rattle.vr_log.proofs.CallerLemmas.{damaged_none}
use Rattle.vr_mount.specs.Areas.{AreOn}
use Rattle.vr_mount.specs.Header.{IsHeaderOf}
use Rattle.vr_space.specs.Part.{IsOn, IsPlaceOf, Shape, Stands, StandsFor, part_no}
use Rattle.vr_volume.specs.PutBack.{image_in, images_of, length_in, length_of}
use Rattle.vr_volume.specs.Volume.{Recovers}
use Rattle.vr_recover.specs.Found.{AreEntriesOf, AtAreas, AtCatalog, AtImages, AtPart}
use Rattle.vr_recover.specs.Found.{AllStand, AreItsPlaces, IsBackNo, MayAdd}
use Rattle.vr_recover.specs.Found.{IsMountShown, Misspelled, ShowsBoth, ShowsOnly}
use Rattle.vr_recover.specs.Images.{CannotGoBack, HasRoomOf, MayGoBack, catalog_by}
use Rattle.vr_recover.specs.Opening.{InArea, InCatalog, InImages, InLog, InPart, IsDamaged, IsLogShown, PastLog}
use Rattle.vr_recover.specs.Opening.{IsEntryShown, IsRefused, IsShownOf, IsShownPast, OfCatalog, OfEntry, Twice}
use Rattle.vr_recover.specs.Opening.{AreLaid, shapes_laid}
use Rattle.vr_recover.specs.Unserved.{IsCatalogUnserved}
use Rattle.vr_recover.specs.Unserved.{IsUnserved, IsUnservedOf}
use Rattle.vr_recover.specs.Undone.{FitsPart, IsCovered}
use Rattle.vr_recover.specs.declared.open_no.OpenNo.{OpenNo}
use Rattle.vr_recover.specs.declared.open_no.OpenNo.TheVariants as nos
use Rattle.vr_recover.specs.declared.open_no.OpenNo.TheVariants.{Damaged, Version, Read, Write, Memory}
use Rattle.vr_recover.specs.declared.open_no.Unserved.{Unserved}
use Rattle.vr_recover.proofs.Agreeing.{goes-back, has-rooms, mount-none, no-volume}
use Rattle.vr_recover.proofs.Numbering.{on-of}
use Rattle.vr_recover.proofs.Shapes.{are-laid}
use Rattle.vr_recover.proofs.Settled.{with-all}

-- ---- two lists of the parts that are laid

-- what all have, that at an index has
all-at : (P : Shape → Type 0) (shapes : List Shape) → All P shapes → (k : ℕ) (shape : Shape)
    → slice_get shapes k ≡ Some shape → P shape
all-at P shapes all k shape there = subst P (get_or_from_slice_get shapes k shape shape there)
    (all k shape (slice_get_within shapes k shape there))

module _ (geometry : Geometry) (entries : List CatEntry) (images : List BeforeImage) (image : Image)
    (one other : List Shape) (here : AreLaid geometry entries one)
    (there : AreLaid geometry entries other) where
  -- what is true of the parts of one list is so of those of the other
  all-alike : (P : Shape → Type 0) → All P other → All P one
  all-alike P all k d below =
      let shape = get_or one k d in
      let of = there.there (part_no shape).0 shape (here.each k d below) in
      all-at P other all of.0 shape of.1

  covered-alike : (before : BeforeImage) → IsCovered other before → IsCovered one before
  covered-alike before has =
      let laid : shape_in geometry entries (part_no has.1).0 ≡ Some has.1 =
      all-at (λ (shape : Shape). shape_in geometry entries (part_no shape).0 ≡ Some shape) other
      there.each has.0 has.1 has.2 in
      let of = here.there (part_no has.1).0 has.1 laid in
      (of.0, has.1, of.1, has.3)

  back-alike : MayGoBack images other → MayGoBack images one
  back-alike back = record {
    alone = back.alone;
    covered = λ k d below. covered-alike (get_or images k d) (back.covered k d below);
    fits = all-alike (λ (shape : Shape). All (FitsPart shape) images) back.fits;
  }

  -- so before-images can't be put back into both
  cannot-alike : CannotGoBack images one image → CannotGoBack images other image
  cannot-alike cannot = ⊎_elim (λ back. inl (λ may. back (back-alike may)))
      (λ room. inr (λ all. room (all-alike (HasRoomOf images image) all))) cannot

-- ---- a shape with its header

module _ (number : ℕ) (geometry : Geometry) (now : Seen) (allowed : IsAllowed geometry)
    (of : IsOf geometry now) (header : block_at now.cur 0 ≡ header_block geometry number) where
  header-of : IsHeaderOf now.count now.size number (block_at now.cur 0) geometry
  header-of = record {
    allowed = allowed;
    blocks_are = sym of.count;
    size_is = sym of.size;
    bytes = header;
  }

  -- what is shown of a volume of this shape, where none recovers
  damaged-of : (block rule : ℕ)
      → ((recovered : ℕ → Content) → Recovers geometry number now.cur recovered → ⊥)
      → IsShownOf geometry now block rule → IsDamaged number now block rule
  damaged-of block rule none shown = record {
    none = no-volume number geometry now allowed header none;
    shown = inr (record { geometry = geometry; header = header-of; shown = shown });
  }

  -- ---- by its log

  unserved-of : (block : ℕ) (cause : Unserved) → IsUnservedOf geometry now block cause
      → IsUnserved number now block cause
  unserved-of block cause has = record { geometry = geometry; header = header-of; has = has }

  pub log-refused : 8 ≤ length (block_at now.cur 1) → (answer : OpenNo)
      → ShowsOnly (IsLogShown geometry now) answer → IsRefused number now answer
  log-refused long (Damaged block rule) shown = damaged-of block rule
      (λ recovered is. damaged_none geometry now.cur is.log block long is.stands.log_is
      shown.damaged) (InLog shown)
  log-refused long (Version found) shown = absurd shown
  log-refused long (nos.Unserved block cause) shown = absurd shown
  log-refused long Read shown = tt
  log-refused long Write shown = tt
  log-refused long Memory shown = tt

  module _ (content : LogContent) (long : 8 ≤ length (block_at now.cur 1))
      (spelled : Spells geometry now.cur content) where
    abbrev images : List BeforeImage
    images = images_of content.records

    past-of : (block rule : ℕ)
        → ((recovered : ℕ → Content) → Recovers geometry number now.cur recovered → ⊥)
        → IsShownPast geometry images now block rule → IsDamaged number now block rule
    past-of block rule none shown = damaged-of block rule none (PastLog content spelled shown)

    -- ---- by its parts

    none-of : (block rule : ℕ) → IsMountShown geometry images now block rule
        → (recovered : ℕ → Content) → Recovers geometry number now.cur recovered → ⊥
    none-of block rule shown recovered is =
        mount-none geometry number now.cur recovered is content long spelled block rule now
        refl shown

    entries-as : (entries : List CatEntry) → AreEntriesOf geometry images now.cur entries
        → (one : Content) → StandsFor (catalog_shape geometry) now.cur one
        → entries_in (catalog_by images one) ≡ entries
    entries-as entries are one stands = sym (are one stands).0

    shown-as : (block rule : ℕ) → IsMountShown geometry images now block rule
        → IsShownPast geometry images now block rule
    shown-as block rule (AtCatalog shown) = InPart (OfCatalog shown)
    shown-as block rule (AtImages stands shown) = InImages (record {
      block_is = shown.block_is;
      rule_is = shown.rule_is;
      catalog = stands.0;
      stands = stands.1;
      damaged = inl (λ back. shown.damaged (All-head
          (λ (shape : Shape). All (FitsPart shape) images) (catalog_shape geometry)
          (filter_map (shape_of geometry) (entries_in (catalog_by images stands.0))) back.fits));
    })
    shown-as block rule (Misspelled shown) = InCatalog shown
    shown-as block rule (AtAreas shown) = ⊎_elim
        (λ past. InArea (record {
          block_is = shown.shown.0;
          rule_is = past.0;
          stands = shown.stands;
          damaged = λ one stands on. past.1 (subst (AreOn geometry)
              (entries-as shown.entries shown.are.entries_are one stands) on);
        }))
        (λ twice. Twice (record {
          block_is = shown.shown.0;
          rule_is = twice.0;
          stands = shown.stands;
          damaged = λ one stands apart. twice.1
              (subst (λ (es : List CatEntry). AreApart (shape_in geometry es))
              (entries-as shown.entries shown.are.entries_are one stands) apart);
        }))
        shown.shown.1
    shown-as block rule (AtPart shown) = InPart (OfEntry shown.stands.0 shown.stands.1
        (subst (λ (es : List CatEntry). IsEntryShown geometry es now block rule)
        (shown.are.entries_are shown.stands.0 shown.stands.1).0 shown.shown))

    pub mount-refused : (answer : OpenNo)
        → ShowsBoth (IsMountShown geometry images now) (IsCatalogUnserved geometry images now)
        answer
        → IsRefused number now answer
    mount-refused (Damaged block rule) shown =
        past-of block rule (none-of block rule shown) (shown-as block rule shown)
    mount-refused (Version found) shown = absurd shown
    mount-refused (nos.Unserved block cause) shown =
        unserved-of block cause
        (record { log = content; spelled = spelled; catalog = shown })
    mount-refused Read shown = tt
    mount-refused Write shown = tt
    mount-refused Memory shown = tt

    -- ---- by its before-images

    module _ (entries : List CatEntry) (are : AreEntriesOf geometry images now.cur entries)
        (distinct : IsDistinct nat_eq (0 ∷ parts_in entries))
        (stands : Stands (catalog_shape geometry) now.cur) (shapes : List Shape)
        (laid : AreLaid geometry entries shapes) where
      back-none : (block rule : ℕ)
          → IsBackNo images shapes now.cur block rule
          → (recovered : ℕ → Content) → Recovers geometry number now.cur recovered → ⊥
      back-none block rule shown recovered is = ⊎_elim
          (λ back. back (goes-back geometry number now.cur recovered is content long spelled
          entries are shapes laid))
          (λ room. room (has-rooms geometry number now.cur recovered is content long spelled
          entries are shapes laid))
          shown.2

      pub back-refused : (answer : OpenNo)
          → ShowsOnly (IsBackNo images shapes now.cur) answer
          → IsRefused number now answer
      back-refused (Damaged block rule) shown =
          past-of block rule (back-none block rule shown)
          (InImages (record {
            block_is = shown.0;
            rule_is = shown.1;
            catalog = stands.0;
            stands = stands.1;
            damaged = subst (λ (es : List CatEntry). CannotGoBack images
                (shapes_laid geometry es) now.cur) (are stands.0 stands.1).0
                (cannot-alike geometry entries images now.cur shapes (shapes_laid geometry entries)
                laid (are-laid geometry entries distinct) shown.2);
          }))
      back-refused (Version found) shown = absurd shown
      back-refused (nos.Unserved block cause) shown = absurd shown
      back-refused Read shown = tt
      back-refused Write shown = tt
      back-refused Memory shown = tt

-- the first of the parts that are laid is the catalog's own
pub shapes-stand : (geometry : Geometry) (entries : List CatEntry) (shapes : List Shape)
    (image : Image) → AreLaid geometry entries shapes → AllStand shapes image
    → Stands (catalog_shape geometry) image
shapes-stand geometry entries shapes image laid all =
    let own = laid.there 0 (catalog_shape geometry) refl in
    all-at (λ (shape : Shape). Stands shape image) shapes all own.0 (catalog_shape geometry) own.1

-- ---- the parts are on blocks that there are

pub shapes-on : (geometry : Geometry) (entries : List CatEntry) (shapes : List Shape) (now : Seen)
    → IsAllowed geometry → IsOf geometry now → MayAdd geometry entries
    → AreLaid geometry entries shapes → All (λ (shape : Shape). IsOn shape now) shapes
shapes-on geometry entries shapes now allowed of may laid k d below =
    let shape = get_or shapes k d in
    on-of geometry entries allowed may now of (part_no shape).0 shape (laid.each k d below)

-- ---- what is kept

module _ (shape : Shape) where
  abbrev IsPlace : List ℕ × ℕ → Type 0
  IsPlace entry = IsPlaceOf shape entry.0

  fit-places : (images : List BeforeImage) → All (FitsPart shape) images
      → All IsPlace (filter_map (length_in (part_no shape).0) images)
  fit-places [] all = All-nil IsPlace
  fit-places (image ∷ images) all = by (nat_eq image.part (part_no shape).0) refl
      (option_and_then record_of image.old)
      (fit-places images (All-tail (FitsPart shape) image images all))
    where
      by : (mine : Bool) → nat_eq image.part (part_no shape).0 ≡ mine → (old : Option (List ℕ))
          → All IsPlace (filter_map (length_in (part_no shape).0) images)
          → All IsPlace (cons_option (cond mine (length_of image.place old) None)
          (filter_map (length_in (part_no shape).0) images))
      by false is old rest = rest
      by true is None rest = rest
      by true is (Some bytes) rest = All-cons IsPlace (image.place, length bytes)
          (filter_map (length_in (part_no shape).0) images)
          (All-head (FitsPart shape) image images all
          (eqb-true image.part (part_no shape).0 is)).place rest

  -- before-images that may be put back are at places of their part
  pub kept-places : (images : List BeforeImage) → All (FitsPart shape) images
      → AreItsPlaces images shape
  kept-places images all = with-all (IsPlaceOf shape) []
      (filter_map (length_in (part_no shape).0) images) (All-nil IsPlace) (fit-places images all)

-- where no unit is live there are none
no-image : (records : List LogRecord) → filter_map (image_in []) records ≡ []
no-image [] = refl
no-image (Before unit place part old ∷ records) = no-image records
no-image (End unit kind ∷ records) = no-image records

pub none-live : (records : List LogRecord) → length (live_in records) ≡ 0
    → images_of records ≡ []
none-live records none =
    ap (λ (units : List Rattle.vr_types.specs.declared.unit.Unit.Unit).
    filter_map (image_in units) records) (empty (live_in records) none) ∙ no-image records
  where
    empty : (units : List Rattle.vr_types.specs.declared.unit.Unit.Unit) → length units ≡ 0
        → units ≡ []
    empty [] none = refl
    empty (unit ∷ units) none = absurd (omega (arith, none))

-- the first block of a log has room for its generation. The premise is the law `sized`
pub log-long : (geometry : Geometry) (now : Seen) → IsAllowed geometry → IsOf geometry now
    → Left now now.cur
    → ((n : ℕ) (block : List ℕ) → n < now.count → now.may n block → length block ≡ now.size)
    → 8 ≤ length (block_at now.cur 1)
log-long geometry now allowed of left sized =
    let below : 1 < now.count = omega (arith, allowed.two_areas, of.count) in
    omega (
      arith,
      sized 1 (block_at now.cur 1) below (left.each 1 below),
      of.size,
      block_size_least geometry.size allowed.size,
    )
