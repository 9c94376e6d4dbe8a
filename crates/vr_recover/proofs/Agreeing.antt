-- What a volume that recovers has in common with what is found as it is opened, and why what is
-- shown refuses it.
use Rattle.std.proofs.Common.{◌≡◌, ⊎_elim, ℕ, ◌+◌, ◌<◌, ◌≤◌}
use Rattle.std.proofs.Common.{List, Some, length, refl, sym, ap, subst, ◌∙◌}
use Rattle.std.proofs.Common.{get_or}
use Rattle.std.specs.Prelude.{All, IfSome}
use Rattle.std.specs.Option.{option_and_then}
use Rattle.vr_types.specs.Content.{Content, record_of}
use Rattle.vr_types.specs.Geometry.{IsAllowed, area_count, head_block}
use Rattle.vr_types.specs.Image.{Image, block_at}
use Rattle.vr_types.specs.Seen.{Seen}
use Rattle.vr_types.specs.declared.geometry.Geometry.{Geometry}
use Rattle.vr_catalog.specs.Catalog.{entries_in}
use Rattle.vr_catalog.specs.Definition.{catalog_definition}
use Rattle.vr_catalog.specs.declared.entry.CatEntry.{CatEntry}
use Rattle.vr_attach.specs.CatalogRules.{IsCatalog}
use Rattle.vr_attach.specs.Linked.{IsLinkedDamagedAt}
use Rattle.vr_attach.specs.Header.{header_block}
use Rattle.vr_attach.specs.Laid.{AreApart, catalog_shape, keyed_part, shape_by, shape_in}
use Rattle.vr_attach.proofs.CallerLemmas.{damaged-alone, owned-apart}
use Rattle.vr_history.specs.State.{BeforeImage}
use Rattle.vr_log.specs.Content.{Content as LogContent}
use Rattle.vr_log.specs.Spells.{Spells}
use Rattle.vr_log.proofs.CallerLemmas.{one_log}
use Rattle.vr_mount.specs.Areas.{AreOn, EndsBefore}
use Rattle.vr_mount.proofs.CallerLemmas.{area-on}
use Rattle.vr_mount.proofs.Headers.{one_shape}
use Rattle.vr_part.specs.Attached.{IsAnyShown}
use Rattle.vr_space.specs.Part.{HasRoom, IsPlaceOf, IsRecordOf, KeyedShape, NumberedShape, Shape}
use Rattle.vr_space.specs.Part.{Stands, StandsFor, part_no}
use Rattle.vr_volume.specs.PutBack.{AreAlone, images_of, lengths_kept}
use Rattle.vr_volume.specs.Volume.{CanPutBack, IsInside, Recovers, catalog_back, shapes_by}
use Rattle.vr_recover.specs.Found.{AreEntriesOf, AtAreas, AtCatalog, AtImages, AtPart, HasRoomOf}
use Rattle.vr_recover.specs.Found.{IsAreaNo, IsMountShown, MayGoBack, Misspelled, catalog_by}
use Rattle.vr_recover.specs.Opening.{AreLaid, IsNoVolume, IsTaken, IsVolume}
use Rattle.vr_recover.specs.Undone.{FitsPart, IsCovered}
use Rattle.vr_recover.proofs.Shown.{any-none}

some-shape : (x y : Shape) → Some x ≡ Some y → x ≡ y
some-shape x y same = cc

-- ---- the header

-- A header is that of one shape: so there is no volume where none of this shape recovers.
pub no-volume : (number : ℕ) (geometry : Geometry) (now : Seen) → IsAllowed geometry
    → block_at now.cur 0 ≡ header_block geometry number
    → ((recovered : ℕ → Content) → Recovers geometry number now.cur recovered → ⊥)
    → IsNoVolume number now
no-volume number geometry now allowed header none other recovered is =
    let same : other ≡ geometry =
    one_shape other geometry number number is.allowed allowed
    (sym is.recovers.stands.header ∙ header) in
    none recovered (subst (λ (g : Geometry). Recovers g number now.cur recovered) same is.recovers)

-- and a volume is of this shape
pub volume-here : (number : ℕ) (geometry : Geometry) (now : Seen) → IsAllowed geometry
    → block_at now.cur 0 ≡ header_block geometry number → (other : Geometry)
    → (recovered : ℕ → Content) → IsVolume number other recovered now
    → other ≡ geometry
volume-here number geometry now allowed header other recovered is =
    one_shape other geometry number number is.allowed allowed
    (sym is.recovers.stands.header ∙ header)

-- ---- what recovers has the same log, the same catalog and the same parts

module _ (geometry : Geometry) (number : ℕ) (image : Image) (recovered : ℕ → Content)
    (is : Recovers geometry number image recovered) (content : LogContent)
    (long : 8 ≤ length (block_at image 1)) (spelled : Spells geometry image content) where
  pub log-same : is.log ≡ content
  log-same = one_log geometry image is.log content long is.stands.log_is spelled

  images-same : images_of is.log.records ≡ images_of content.records
  images-same = ap (λ (l : LogContent). images_of l.records) log-same

  abbrev images : List BeforeImage
  images = images_of content.records

  catalog-same : catalog_back is.log is.contents ≡ catalog_by images (is.contents 0)
  catalog-same = ap (λ (images : List BeforeImage). catalog_by images (is.contents 0)) images-same

  pub catalog-stands : StandsFor (catalog_shape geometry) image (is.contents 0)
  catalog-stands = is.stands.laid 0 (catalog_shape geometry) refl

  -- the volume has an area, the catalog's
  some-area : 0 < area_count geometry
  some-area = (is.inside 0 (catalog_shape geometry) refl).0.first

  pub catalog-rules : IsCatalog geometry (catalog_by images (is.contents 0))
  catalog-rules = subst (IsCatalog geometry) catalog-same is.stands.catalog

  module _ (entries : List CatEntry) (are : AreEntriesOf geometry images image entries) where
    pub entries-same : entries ≡ entries_in (catalog_by images (is.contents 0))
    entries-same = (are (is.contents 0) catalog-stands).0

    pub shapes-same : (part : ℕ) → shapes_by geometry is.log is.contents part
        ≡ shape_in geometry entries part
    shapes-same part = ap (λ (c : Content). shape_by geometry c part) catalog-same
        ∙ ap (λ (es : List CatEntry). shape_in geometry es part) (sym entries-same)

    pub is-laid : (part : ℕ) (shape : Shape) → shape_in geometry entries part ≡ Some shape
        → shapes_by geometry is.log is.contents part ≡ Some shape
    is-laid part shape laid = shapes-same part ∙ laid

    pub are-on : AreOn geometry entries
    are-on part shape laid = ends shape (is.inside part shape (is-laid part shape laid))
      where
        there : (own : Geometry) (first : ℕ) → own ≡ geometry → first < area_count own
            → head_block own first + own.area < geometry.blocks
        there own first same below =
            subst (λ (g : Geometry). head_block own first + own.area < g.blocks) same
            (area-on own first below)

        ends : (shape : Shape) → IsInside geometry shape → EndsBefore geometry.blocks shape
        ends (KeyedShape part) inside = there part.geometry part.first inside.1 inside.0.first
        ends (NumberedShape part) inside = there part.geometry part.first inside.1 inside.0.first

    pub are-apart : AreApart (shape_in geometry entries)
    are-apart = owned-apart geometry entries is.stands.owners image some-area
        (λ part shape laid. is.stands.within part shape (is-laid part shape laid))

    pub area-none : (block rule : ℕ) → IsAreaNo geometry entries block rule → ⊥
    area-none block rule shown = ⊎_elim (λ past. past.1 are-on) (λ twice. twice.1 are-apart)
        shown.1

    pub part-stands : (part : ℕ) (shape : Shape) → shape_in geometry entries part ≡ Some shape
        → Stands shape image
    part-stands part shape laid =
        (is.contents part, is.stands.laid part shape (is-laid part shape laid))

    -- ---- its before-images may be put back

    module _ (shapes : List Shape) (laid : AreLaid geometry entries shapes) where
      covers : (image : BeforeImage)
          → CanPutBack (shapes_by geometry is.log is.contents) image → IsCovered shapes image
      covers one can =
          let here : shape_in geometry entries one.part ≡ Some can.shape =
          sym (shapes-same one.part) ∙ can.laid in
          let there = laid.there one.part can.shape here in
          (there.0, can.shape, there.1, sym (laid.all one.part can.shape here))

      fits : (shape : Shape) → shape_in geometry entries (part_no shape).0 ≡ Some shape
          → (image : BeforeImage) → CanPutBack (shapes_by geometry is.log is.contents) image
          → FitsPart shape image
      fits shape here one can mine =
          let same : can.shape ≡ shape =
          some-shape can.shape shape (sym can.laid ∙ shapes-same one.part
          ∙ ap (shape_in geometry entries) mine ∙ here) in
          record {
            place = subst (λ (s : Shape). IsPlaceOf s one.place) same can.place;
            old = subst (λ (s : Shape). IfSome (option_and_then record_of one.old)
                (IsRecordOf s one.place)) same can.old;
          }

      images-are : All (CanPutBack (shapes_by geometry is.log is.contents))
          (images_of content.records)
      images-are = subst (All (CanPutBack (shapes_by geometry is.log is.contents))) images-same
          is.images

      pub goes-back : MayGoBack (images_of content.records) shapes
      goes-back = record {
        alone = subst AreAlone images-same is.alone;
        covered = λ k d below. covers (get_or (images_of content.records) k d)
            (images-are k d below);
        fits = λ j e within k d below.
            fits (get_or shapes j e) (laid.each j e within) (get_or (images_of content.records) k d)
            (images-are k d below);
      }

      -- and there is room for them
      pub has-rooms : All (HasRoomOf (images_of content.records) image) shapes
      has-rooms j e within =
          let shape = get_or shapes j e in
          subst (λ (images : List BeforeImage). HasRoom shape
          (lengths_kept images (part_no shape).0) image) images-same
          (is.room (part_no shape).0 shape (is-laid (part_no shape).0 shape (laid.each j e within)))

  -- each before-image of the catalog's own part may be put back
  own-fits : All (FitsPart (catalog_shape geometry)) images
  own-fits k d below = fit (get_or images k d) (subst
      (All (CanPutBack (shapes_by geometry is.log is.contents))) images-same is.images k d below)
    where
      fit : (one : BeforeImage) → CanPutBack (shapes_by geometry is.log is.contents) one
          → FitsPart (catalog_shape geometry) one
      fit one can mine =
          let same : can.shape ≡ catalog_shape geometry =
          some-shape can.shape (catalog_shape geometry)
          (sym can.laid ∙ ap (shapes_by geometry is.log is.contents) mine) in
          record {
            place = subst (λ (s : Shape). IsPlaceOf s one.place) same can.place;
            old = subst (λ (s : Shape). IfSome (option_and_then record_of one.old)
                (IsRecordOf s one.place)) same can.old;
          }

  -- ---- what is shown of the parts

  pub mount-none : (block rule : ℕ) (now : Seen) → now.cur ≡ image
      → IsMountShown geometry images now block rule → ⊥
  mount-none block rule now same (AtCatalog shown) =
      let part = keyed_part geometry 0 0 catalog_definition in
      damaged-alone part image (λ area. ⊥) block shown.rule
      (subst (λ (i : Image). IsLinkedDamagedAt part (λ area. ⊥) i block shown.rule) same
      shown.damaged)
      (record {
        content = (is.contents 0, catalog-stands);
        alone = λ area reached other taken. taken;
      })
  mount-none block rule now same (AtImages stands shown) = shown.damaged own-fits
  mount-none block rule now same (Misspelled shown) =
      shown.damaged (is.contents 0)
      (subst (λ (i : Image). StandsFor (catalog_shape geometry) i (is.contents 0)) (sym same)
      catalog-stands) catalog-rules
  mount-none block rule now same (AtAreas shown) =
      area-none shown.entries
      (subst (λ (i : Image). AreEntriesOf geometry images i shown.entries) same
      shown.are.entries_are)
      block rule shown.shown
  mount-none block rule now same (AtPart shown) =
      let entries = shown.entries in
      let are = subst (λ (i : Image). AreEntriesOf geometry images i entries) same
      shown.are.entries_are in
      let one = shown.shown in
      any-none geometry entries is.stands.owners image some-area
      (λ part shape here. is.stands.within part shape (is-laid entries are part shape here))
      one.part one.shape one.laid (part-stands entries are one.part one.shape one.laid) block rule
      (subst (λ (i : Image). IsAnyShown one.shape
      (IsTaken geometry entries i one.part) i block rule) same one.shown)
