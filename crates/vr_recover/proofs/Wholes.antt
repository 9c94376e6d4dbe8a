-- The contents of a volume with its before-images put back, what was withdrawn among them: what it
-- recovers to is their records.
use Rattle.std.proofs.Common.{◌≡◌, ℕ, Bool, true, false, cond, List, [], ◌∷◌, Option, Some, None}
use Rattle.std.proofs.Common.{refl, sym, ap, subst, ◌∙◌, map}
use Rattle.std.specs.Prelude.{All, IfSome, nat_eq}
use Rattle.std.specs.List.{filter_map}
use Rattle.std.specs.Option.{option_and_then, option_map}
use Rattle.std.proofs.lemmas.Bool.{eqb-true}
use Rattle.std.proofs.lemmas.List.Elements.{All-head, All-tail}
use Rattle.vr_types.specs.Content.{Ascends, Content, Standing, item_at, record_of}
use Rattle.vr_types.specs.Image.{Image}
use Rattle.vr_types.specs.declared.geometry.Geometry.{Geometry}
use Rattle.vr_types.specs.declared.unit.Unit.{Unit as UnitOfRecovery}
use Rattle.vr_altkey.specs.Placing.{placed_in}
use Rattle.vr_altkey.proofs.CallerLemmas.{same_items}
use Rattle.vr_space.specs.Part.{Shape, item_of, left_by}
use Rattle.vr_space.proofs.CallerLemmas.{content_item, stands_content}
use Rattle.vr_history.specs.Committed.{kept_or}
use Rattle.vr_history.specs.State.{BeforeImage}
use Rattle.vr_log.specs.Live.{is_in, live_in}
use Rattle.vr_log.specs.declared.record.LogRecord.{LogRecord}
use Rattle.vr_log.specs.declared.record.LogRecord.TheVariants.{Before, End}
use Rattle.vr_undo.proofs.CallerLemmas.{record-stands, stands-ascends, stands-item}
use Rattle.vr_volume.specs.Laid.{shape_by}
use Rattle.vr_volume.specs.PutBack.{image_in, images_of, is_image_of, oldest, put_back, standing}
use Rattle.vr_volume.specs.PutBack.{standing_of}
use Rattle.vr_recover.specs.Recovered.{AreBackOf, IsRecovered, IsWhole, item_back}
use Rattle.vr_recover.specs.Recovered.{standing_all}
use Rattle.vr_volume.specs.Volume.{CanPutBack, Recovers, RecoversItems, shapes_by}
use Rattle.vr_volume.proofs.Alone.{is-there}
use Rattle.vr_volume.proofs.CallerLemmas.{back-record, left-stands, records-ascend, recovers-same}
use Rattle.vr_volume.proofs.CallerLemmas.{shape-stands}
use Rattle.vr_volume.proofs.PuttingBack.{back-ascends, back-item}
use Rattle.vr_mount.proofs.CallerLemmas.{none-ascend}
use Rattle.vr_recover.proofs.PuttingBack.{found-passes, from-each}

-- ---- one part

-- what a before-image of the log has is a record, or none
pub images-stand : (live : List UnitOfRecovery) (records : List LogRecord)
    → All (λ (image : BeforeImage). standing_of image.old ≡ image.old)
    (filter_map (image_in live) records)
images-stand live records = from-each (λ (image : BeforeImage). standing_of image.old ≡ image.old)
    (image_in live) records (λ k d below. one (Rattle.std.proofs.Common.get_or records k d))
  where
    one : (rec : LogRecord)
        → IfSome (image_in live rec) (λ (image : BeforeImage). standing_of image.old ≡ image.old)
    one (End unit kind) = tt
    one (Before unit part place old) = by_live (is_in unit live)
      where
        image : BeforeImage
        image = record { unit = unit; part = part.0; place = place; old = option_map Standing old }

        by_live : (b : Bool) → IfSome (cond b (Some image) None)
            (λ (image : BeforeImage). standing_of image.old ≡ image.old)
        by_live true = record-stands old
        by_live false = tt

module _ (shape : Shape) (content : Content) where
  -- the image of what putting one back leaves at its place
  abbrev leaving : BeforeImage → BeforeImage
  leaving image = record {
    unit = image.unit;
    part = image.part;
    place = image.place;
    old = left_by shape (item_at content image.place) (option_and_then record_of image.old);
  }

  -- the content with those of the part put back
  abbrev pub whole_of : ℕ → List BeforeImage → Content
  whole_of part images = put_back part (map leaving images) content

  oldest-leaving : (part : ℕ) (images : List BeforeImage) (place : List ℕ)
      → oldest (map leaving images) part place ≡ option_map leaving (oldest images part place)
  oldest-leaving part [] place = refl
  oldest-leaving part (image ∷ images) place =
      by_test (is_image_of part place image) (oldest-leaving part images place)
    where
      by_test : (b : Bool)
          → oldest (map leaving images) part place ≡ option_map leaving (oldest images part place)
          → cond b (Some (leaving image)) (oldest (map leaving images) part place)
          ≡ option_map leaving (cond b (Some image) (oldest images part place))
      by_test true rest = refl
      by_test false rest = rest

  -- at each place it has what putting its image back leaves
  pub whole-item : (part : ℕ) (images : List BeforeImage) (place : List ℕ)
      → item_at (whole_of part images) place
      ≡ item_back shape (oldest images part place) (item_at content place)
  whole-item part images place = back-item part (map leaving images) content place
      ∙ ap (λ (o : Option BeforeImage). kept_or o (item_at content place))
      (oldest-leaving part images place)
      ∙ by_image (oldest images part place) refl
    where
      by_image : (image : Option BeforeImage) → oldest images part place ≡ image
          → kept_or (option_map leaving image) (item_at content place)
          ≡ item_back shape image (item_at content place)
      by_image None is = refl
      by_image (Some image) is =
          let passes = found-passes (λ (i : BeforeImage). Unit {0}) (is_image_of part place) images
          image (λ k d below. tt) is in
          ap (λ (at : List ℕ). left_by shape (item_at content at)
          (option_and_then record_of image.old)) (sym (is-there part place image passes.0).1)

  pub whole-ascends : (part : ℕ) (images : List BeforeImage) → Ascends content
      → Ascends (whole_of part images)
  whole-ascends part images ascends = back-ascends part (map leaving images) content ascends

  -- its records are those of the content, with the images of the log put back
  pub whole-stands : (part : ℕ) (images : List BeforeImage)
      → All (λ (image : BeforeImage). standing_of image.old ≡ image.old) images
      → Ascends content
      → standing (whole_of part images) ≡ put_back part images (standing content)
  whole-stands part images stand ascends = same_items (standing (whole_of part images))
      (put_back part images (standing content))
      (stands-ascends (whole_of part images) (whole-ascends part images ascends))
      (records-ascend part images content ascends)
      (λ place. stands-item (whole_of part images) place (whole-ascends part images ascends)
      ∙ ap standing_of (whole-item part images place)
      ∙ by_image place (oldest images part place) refl
      ∙ sym (back-record part images content place ascends))
    where
      by_image : (place : List ℕ) (image : Option BeforeImage)
          → oldest images part place ≡ image
          → standing_of (item_back shape image (item_at content place))
          ≡ kept_or image (standing_of (item_at content place))
      by_image place None is = refl
      by_image place (Some image) is =
          left-stands shape (item_at content place) (option_and_then record_of image.old)
          ∙ (found-passes (λ (i : BeforeImage). standing_of i.old ≡ i.old)
          (is_image_of part place) images image stand is).1

-- ---- a part that isn't laid

pub no-shape : (x : Shape) → Some x ≡ None → ⊥
no-shape x same = cc

module _ (shapes : ℕ → Option Shape) (part : ℕ) where
  -- it has none
  pub none-back : shapes part ≡ None → (images : List BeforeImage) → All (CanPutBack shapes) images
      → put_back part images [] ≡ []
  none-back none [] all = refl
  none-back none (image ∷ images) all = by (nat_eq image.part part) refl
      (none-back none images (All-tail (CanPutBack shapes) image images all))
    where
      first : CanPutBack shapes image
      first = All-head (CanPutBack shapes) image images all

      by : (mine : Bool) → nat_eq image.part part ≡ mine → put_back part images [] ≡ []
          → cond mine (placed_in image.place image.old (put_back part images []))
          (put_back part images []) ≡ []
      by false is rest = rest
      by true is rest = absurd (no-shape first.shape (sym first.laid
          ∙ ap shapes (eqb-true image.part part is) ∙ none))

-- ---- the volume

module _ (geometry : Geometry) (number : ℕ) (image : Image) (recovered : ℕ → Content)
    (is : Recovers geometry number image recovered) where
  abbrev images : List BeforeImage
  images = images_of is.log.records

  abbrev laid : ℕ → Option Shape
  laid part = shapes_by geometry is.log is.contents part

  held-by : (part : ℕ) (found : Option Shape) → laid part ≡ found → Ascends (is.contents part)
  held-by part (Some shape) there =
      (stands_content shape image (is.contents part) (is.stands.laid part shape there)).ascends
  held-by part None none = subst Ascends (sym (is.stands.others part none)) none-ascend

  pub contents-ascend : (part : ℕ) → Ascends (is.contents part)
  contents-ascend part = held-by part (laid part) refl

  abbrev whole_by : Option Shape → ℕ → Content
  whole_by None part = []
  whole_by (Some shape) part = whole_of shape (is.contents part) part images

  -- what each part has with its before-images put back
  abbrev pub whole : ℕ → Content
  whole part = whole_by (laid part) part

  pub whole-ascend : (part : ℕ) → Ascends (whole part)
  whole-ascend part = by_shape (laid part)
    where
      by_shape : (found : Option Shape) → Ascends (whole_by found part)
      by_shape None = none-ascend
      by_shape (Some shape) =
          whole-ascends shape (is.contents part) part images (contents-ascend part)

  pub whole-none : (part : ℕ) → laid part ≡ None → whole part ≡ []
  whole-none part none = ap (λ (found : Option Shape). whole_by found part) none

  -- it recovers to their records
  pub whole-records : (part : ℕ) → standing (whole part) ≡ recovered part
  whole-records part = by_shape (laid part) refl ∙ sym (is.back part)
    where
      by_shape : (found : Option Shape) → laid part ≡ found
          → standing (whole_by found part) ≡ put_back part images (standing (is.contents part))
      by_shape None none = sym (ap (λ (c : Content). put_back part images (standing c))
          (is.stands.others part none) ∙ none-back laid part none images is.images)
      by_shape (Some shape) there = whole-stands shape (is.contents part) part images
          (images-stand (live_in is.log.records) is.log.records) (contents-ascend part)

  pub whole-recovers : Recovers geometry number image (standing_all whole)
  whole-recovers =
      recovers-same geometry number image recovered (standing_all whole) whole-records is

  -- they lay the parts that there are
  pub whole-lays : (part : ℕ) → shape_by geometry (whole 0) part ≡ laid part
  whole-lays part = sym (shape-stands geometry (whole 0) part)
      ∙ ap (λ (c : Content). shape_by geometry c part) (whole-records 0 ∙ is.back 0)

  -- and have what the blocks have, with the before-images put back
  pub whole-back : AreBackOf geometry is.log.records whole image
  whole-back part shape there place =
      let found : laid part ≡ Some shape = sym (whole-lays part) ∙ there in
      ap (λ (o : Option Shape). item_at (whole_by o part) place) found
      ∙ whole-item shape (is.contents part) part images place
      ∙ ap (item_back shape (oldest images part place))
      (content_item shape image (is.contents part) (is.stands.laid part shape found) place)

  pub whole-recovered : IsRecovered geometry number whole image
  whole-recovered = record {
    header = is.stands.header;
    log = is.log;
    spelled = is.stands.log_is;
    items = whole-back;
  }

  -- so it recovers to the records of contents that the blocks have
  pub recovers-whole : IsWhole geometry number whole image
  recovers-whole = record {
    recovers = whole-recovers;
    whole = whole-recovered;
    ascends = whole-ascend;
    others = λ part none. whole-none part (sym (whole-lays part) ∙ none);
  }

-- ---- the items

-- Off the places of its log's before-images it has the items of such contents.
module _ (geometry : Geometry) (number : ℕ) (image : Image) (contents : ℕ → Content)
    (is : Recovers geometry number image (standing_all contents))
    (back : AreBackOf geometry is.log.records contents image)
    (others : (part : ℕ) → shape_by geometry (contents 0) part ≡ None → contents part ≡ []) where
  lays-same : (part : ℕ) → shapes_by geometry is.log is.contents part
      ≡ shape_by geometry (contents 0) part
  lays-same part = sym (ap (λ (c : Content). shape_by geometry c part) (is.back 0))
      ∙ shape-stands geometry (contents 0) part

  item-same : (part : ℕ) (place : List ℕ)
      → oldest (images_of is.log.records) part place ≡ None
      → item_at (is.contents part) place ≡ item_at (contents part) place
  item-same part place none = by_shape (shape_by geometry (contents 0) part) refl
    where
      by_shape : (found : Option Shape) → shape_by geometry (contents 0) part ≡ found
          → item_at (is.contents part) place ≡ item_at (contents part) place
      by_shape None there = ap (λ (c : Content). item_at c place)
          (is.stands.others part (lays-same part ∙ there) ∙ sym (others part there))
      by_shape (Some shape) there =
          content_item shape image (is.contents part)
          (is.stands.laid part shape (lays-same part ∙ there)) place
          ∙ sym (back part shape there place
          ∙ ap (λ (o : Option BeforeImage). item_back shape o (item_of shape image place)) none)

  pub recovers-items : RecoversItems geometry number is.log contents image
  recovers-items = record { recovers = is; log_is = refl; items = item-same }
