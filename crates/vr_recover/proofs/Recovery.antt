-- What was found recovers, and does so still where only blocks of the log changed.
use Rattle.std.proofs.Common.{◌≡◌, ℕ, ◌<◌, List, [], Option, Some, None}
use Rattle.std.proofs.Common.{refl, sym, ap, subst, ◌∙◌, arith, get_or}
use Rattle.std.specs.Prelude.{All, slice_get}
use Rattle.std.proofs.lemmas.Option.{get_or_from_slice_get, slice_get_within}
use Rattle.vr_types.specs.Content.{Content}
use Rattle.vr_types.specs.Geometry.{IsAllowed}
use Rattle.vr_types.specs.Image.{Image, block_at}
use Rattle.vr_types.specs.declared.geometry.Geometry.{Geometry}
use Rattle.vr_types.specs.declared.unit.PartNo.{PartNo}
use Rattle.vr_catalog.specs.Catalog.{entries_in}
use Rattle.vr_catalog.specs.declared.entry.CatEntry.{CatEntry}
use Rattle.vr_attach.specs.Laid.{catalog_shape, shape_in}
use Rattle.vr_attach.specs.Owning.{owner_of}
use Rattle.vr_history.specs.State.{BeforeImage}
use Rattle.vr_log.specs.Content.{Content as LogContent}
use Rattle.vr_log.specs.Spells.{Spells}
use Rattle.vr_log.specs.Standing.{InLog}
use Rattle.vr_space.specs.Part.{HasRoom, Shape, Stands, StandsFor, part_no}
use Rattle.vr_volume.specs.PutBack.{images_of, lengths_kept, put_back, standing}
use Rattle.vr_volume.specs.Volume.{CanPutBack, Recovers, shapes_by}
use Rattle.vr_mount.proofs.CallerLemmas.{AreSame, OwnParts, areas-own, rooms-same, stands-same}
use Rattle.vr_mount.proofs.CallerLemmas.{stays-same}
use Rattle.vr_recover.specs.Found.{HasRoomOf, IsFound, IsPlanned, catalog_by}
use Rattle.vr_recover.specs.Recovered.{KeepsAll, standing_all}
use Rattle.vr_recover.specs.Undone.{FitsPart, HasPart}
use Rattle.vr_recover.proofs.Numbering.{inside-of}
use Rattle.vr_recover.proofs.NumberOrder.{shapes-lay}
use Rattle.vr_recover.proofs.Shapes.{laid-number}

some-shape : (x y : Shape) → Some x ≡ Some y → x ≡ y
some-shape x y same = cc

no-shape : (x : Shape) → Some x ≡ None → ⊥
no-shape x same = cc

module _ (geometry : Geometry) (content : LogContent) (entries : List CatEntry)
    (shapes : List Shape) (planned : IsPlanned geometry content entries shapes) where
  abbrev pub images : List BeforeImage
  images = images_of content.records

  -- each part that is laid is one of these
  pub among : (part : ℕ) (shape : Shape) → shape_in geometry entries part ≡ Some shape
      → (at : ℕ) × (slice_get shapes at ≡ Some shape)
  among = (shapes-lay geometry entries shapes planned.may.distinct planned.shapes_are).there

  -- what all of them have, one has
  pub at-one : (P : Shape → Type 0) → All P shapes → (at : ℕ) (shape : Shape)
      → slice_get shapes at ≡ Some shape → P shape
  at-one P all at shape there = subst P
      (get_or_from_slice_get shapes at shape shape there)
      (all at shape (slice_get_within shapes at shape there))

  -- and each of these is laid
  pub listed : (at : ℕ) (shape : Shape) → slice_get shapes at ≡ Some shape
      → shape_in geometry entries (part_no shape).0 ≡ Some shape
  listed = at-one (λ (s : Shape). shape_in geometry entries (part_no s).0 ≡ Some s)
      (shapes-lay geometry entries shapes planned.may.distinct planned.shapes_are).each

  module _ (number : ℕ) (owners : List (Option PartNo)) (image : Image)
      (found : IsFound geometry number content entries shapes owners image) where
    pub stand-of : (part : ℕ) (shape : Shape) → shape_in geometry entries part ≡ Some shape
        → Stands shape image
    stand-of part shape laid =
        let one = among part shape laid in
        at-one (λ (s : Shape). Stands s image) found.stand one.0 shape one.1

    -- the parts stay in the areas that are theirs
    pub found-own : OwnParts geometry entries (owner_of geometry owners) image
    found-own = areas-own geometry entries owners image found.owned stand-of

    abbrev pub held : (part : ℕ) (o : Option Shape) → shape_in geometry entries part ≡ o → Content
    held part None is = []
    held part (Some shape) is = (stand-of part shape is).0

    abbrev pub contents : ℕ → Content
    contents part = held part (shape_in geometry entries part) refl

    held-stands : (part : ℕ) (o : Option Shape) (is : shape_in geometry entries part ≡ o)
        (shape : Shape) → o ≡ Some shape → StandsFor shape image (held part o is)
    held-stands part None is shape same = absurd (cc)
    held-stands part (Some here) is shape same =
        subst (λ (s : Shape). StandsFor s image (stand-of part here is).0)
        (some-shape here shape same) (stand-of part here is).1

    none-held : (part : ℕ) (o : Option Shape) (is : shape_in geometry entries part ≡ o)
        → o ≡ None → held part o is ≡ []
    none-held part None is none = refl
    none-held part (Some shape) is none = absurd (cc)

    catalog-stands : StandsFor (catalog_shape geometry) image (contents 0)
    catalog-stands = held-stands 0 (shape_in geometry entries 0) refl (catalog_shape geometry) refl

    entries-same : entries ≡ entries_in (catalog_by images (contents 0))
    entries-same = (found.entries_are (contents 0) catalog-stands).0

    laid-same : (part : ℕ) → shapes_by geometry content contents part
        ≡ shape_in geometry entries part
    laid-same part = ap (λ (es : List CatEntry). shape_in geometry es part) (sym entries-same)

    can-at : (one : BeforeImage) (at : ℕ) (shape : Shape) → slice_get shapes at ≡ Some shape
        → one.part ≡ (part_no shape).0 → FitsPart shape one
        → CanPutBack (shapes_by geometry content contents) one
    can-at one at shape there number-is fit =
        let fits = fit number-is in
        record {
          shape = shape;
          laid = ap (shapes_by geometry content contents) number-is
              ∙ laid-same (part_no shape).0 ∙ listed at shape there;
          place = fits.place;
          old = fits.old;
        }

    can-back : All (CanPutBack (shapes_by geometry content contents)) images
    can-back k d below =
        let one = get_or images k d in
        let has : HasPart shapes one.part = planned.back.covered k d below in
        can-at one has.0 has.1 has.2 has.3
        (at-one (λ (s : Shape). All (FitsPart s) images) planned.back.fits has.0 has.1 has.2 k d
        below)

    room-at : (part : ℕ) (shape : Shape) → shape_in geometry entries part ≡ Some shape
        → HasRoom shape (lengths_kept images part) image
    room-at part shape laid =
        let one = among part shape laid in
        subst (λ (n : ℕ). HasRoom shape (lengths_kept images n) image)
        (laid-number geometry entries planned.may.distinct part shape laid)
        (at-one (HasRoomOf images image) found.rooms one.0 shape one.1)

    abbrev pub recovered : ℕ → Content
    recovered part = put_back part images (standing (contents part))

    pub found-recovers : IsAllowed geometry → Recovers geometry number image recovered
    found-recovers allowed = record {
      log = content;
      contents = contents;
      stands = record {
        header = found.header;
        log_is = found.spelled;
        catalog = (found.entries_are (contents 0) catalog-stands).1;
        owners = owner_of geometry owners;
        past = found-own.past;
        laid = λ part shape is. held-stands part (shape_in geometry entries part) refl shape
            (sym (laid-same part) ∙ is);
        within = λ part shape is. found-own.within part shape (sym (laid-same part) ∙ is);
        others = λ part is. none-held part (shape_in geometry entries part) refl
            (sym (laid-same part) ∙ is);
      };
      inside = λ part shape is. inside-of geometry entries allowed planned.may part shape
          (sym (laid-same part) ∙ is);
      images = can-back;
      alone = planned.back.alone;
      room = λ part shape is. room-at part shape (sym (laid-same part) ∙ is);
      back = λ part. refl;
    }

    -- to contents of which the catalog's has these entries
    pub found-entries : entries ≡ entries_in (recovered 0)
    found-entries = entries-same

-- ---- where only blocks of the log changed

-- the blocks of the volume that aren't the log's are as they were
abbrev pub AreOffLog : Geometry → Image → Image → Type 0
AreOffLog geometry old new = (n : ℕ) → (InLog geometry n → ⊥) → n < geometry.blocks
    → block_at new n ≡ block_at old n

module _ (geometry : Geometry) (number : ℕ) (old new : Image) (recovered : ℕ → Content)
    (is : Recovers geometry number old recovered) (allowed : IsAllowed geometry)
    (same : AreOffLog geometry old new) (spelled : Spells geometry new is.log) where
  part-same : (shape : Shape) → AreSame geometry shape is.stands.owners old new
  part-same shape n below own =
      same n (λ logged. omega (arith, is.stands.past n (part_no shape).0 own, logged.1)) below

  -- it recovers to the same, by the same log and what the blocks had
  pub moved-recovers : Recovers geometry number new recovered
  moved-recovers = record {
    log = is.log;
    contents = is.contents;
    stands = record {
      header = same 0 (λ logged. omega (arith, logged.0)) (omega (arith, allowed.two_areas))
          ∙ is.stands.header;
      log_is = spelled;
      catalog = is.stands.catalog;
      owners = is.stands.owners;
      past = is.stands.past;
      laid = λ part shape laid. stands-same geometry shape is.stands.owners old new
          (is.inside part shape laid) (is.stands.within part shape laid) (part-same shape)
          (is.contents part) (is.stands.laid part shape laid);
      within = λ part shape laid. stays-same geometry shape is.stands.owners old new
          (is.inside part shape laid) (is.stands.within part shape laid) (part-same shape);
      others = is.stands.others;
    };
    inside = is.inside;
    images = is.images;
    alone = is.alone;
    room = λ part shape laid. rooms-same geometry shape is.stands.owners old new
        (is.inside part shape laid) (is.stands.within part shape laid) (part-same shape)
        (lengths_kept (images_of is.log.records) part) (is.contents part)
        (is.stands.laid part shape laid) (is.room part shape laid);
    back = is.back;
  }

-- and keeps what it kept
pub moved-keeps : (geometry : Geometry) (number : ℕ) (old new : Image) (were : List BeforeImage)
    (contents : ℕ → Content) (is : KeepsAll geometry number were contents old)
    → IsAllowed geometry → AreOffLog geometry old new → Spells geometry new is.log
    → KeepsAll geometry number were contents new
unfolding moved-recovers
moved-keeps geometry number old new were contents is allowed same spelled = record {
  log = is.log;
  items = record {
    recovers = moved-recovers geometry number old new (standing_all contents) is.items.recovers
        allowed same
        (subst (λ (log : LogContent). Spells geometry new log) (sym is.items.log_is) spelled);
    log_is = is.items.log_is;
    items = is.items.items;
  };
  fewer = is.fewer;
}
