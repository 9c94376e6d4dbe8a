-- Why a safe image recovers to the committed contents, and each image of a safe volume is one.
use Rattle.std.proofs.Common.{◌≡◌, ℕ, List, [], Option, Some, None, refl, sym, ap}
use Rattle.std.proofs.Common.{subst, ◌∙◌, arith}
use Rattle.std.specs.List.Sorted.{IsStrictlySortedBy}
use Rattle.vr_types.specs.Content.{Content, Ascends, item_at}
use Rattle.vr_types.specs.Image.{Image, block_at}
use Rattle.vr_types.specs.Seen.{Seen, Left}
use Rattle.vr_types.specs.declared.geometry.Geometry.{Geometry}
use Rattle.vr_space.specs.Owners.{Owners}
use Rattle.vr_space.specs.Part.{Shape, StandsFor, HasOnly}
use Rattle.vr_space.proofs.CallerLemmas.{only-weaken, room-image, sound-image, stands_content}
use Rattle.vr_altkey.proofs.CallerLemmas.{same_items}
use Rattle.vr_history.specs.Committed.{kept_or}
use Rattle.vr_history.specs.State.{BeforeImage}
use Rattle.vr_log.specs.Content.{Content as LogContent}
use Rattle.vr_log.specs.LogNow.{LogNow, HasLog}
use Rattle.vr_log.specs.Spells.{Spells}
use Rattle.vr_log.specs.declared.record.LogRecord.{LogRecord}
use Rattle.vr_undo.proofs.CallerLemmas.{stands-ascends, stands-item}
use Rattle.vr_volume.specs.CatalogRules.{IsCatalog}
use Rattle.vr_volume.specs.Laid.{shape_by}
use Rattle.vr_volume.specs.PutBack.{images_of, oldest, put_back, lengths_kept}
use Rattle.vr_volume.specs.PutBack.{standing, standing_of}
use Rattle.vr_volume.specs.Safe.{IsImageSafe, IsItemOf, IsPartIn, IsPartSafe, IsSafe, IsSafeImage}
use Rattle.vr_volume.specs.Volume.{Recovers, RecoversItems, shapes_by}
use Rattle.vr_volume.proofs.Committing.{backs-by}
use Rattle.vr_volume.proofs.PuttingBack.{back-record, records-ascend}
use Rattle.vr_volume.proofs.RecordsLaid.{catalog-stands, shape-stands}

some-same : (one other : Shape) → Some one ≡ Some other → one ≡ other
some-same one other same = cc

none-ascend : Ascends []
unfolding IsStrictlySortedBy
none-ascend = tt

module _ (geometry : Geometry) (number : ℕ) (owners : Owners) (image : Image) (log : LogContent)
    (committed : ℕ → Content) (safe : IsImageSafe geometry number owners log committed image) where
  abbrev images : List BeforeImage
  images = images_of log.records

  -- what the image has of a part
  abbrev has : (part : ℕ) (shape : Shape) → shape_by geometry (committed 0) part ≡ Some shape
      → HasOnly shape owners (IsItemOf part images (committed part)) image
  has part shape is = (safe.parts part shape is).has

  abbrev held : (part : ℕ) (shape : Option Shape) → shape_by geometry (committed 0) part ≡ shape
      → Content
  held part None is = []
  held part (Some shape) is = (has part shape is).content

  abbrev contents : ℕ → Content
  contents part = held part (shape_by geometry (committed 0) part) refl

  held-stands : (part : ℕ) (found : Option Shape)
      (is : shape_by geometry (committed 0) part ≡ found) (shape : Shape) → found ≡ Some shape
      → StandsFor shape image (held part found is)
  held-stands part None is shape same = absurd (cc)
  held-stands part (Some here) is shape same =
      subst (λ (s : Shape). StandsFor s image (has part here is).content)
      (some-same here shape same) (has part here is).stands

  none-held : (part : ℕ) (found : Option Shape)
      (is : shape_by geometry (committed 0) part ≡ found) → found ≡ None → held part found is ≡ []
  none-held part None is none = refl
  none-held part (Some shape) is none = absurd (cc)

  -- off the places of before-images each has the committed item
  item-held : (part : ℕ) (found : Option Shape)
      (is : shape_by geometry (committed 0) part ≡ found) (place : List ℕ)
      → oldest images part place ≡ None
      → item_at (held part found is) place ≡ item_at (committed part) place
  item-held part None is place none =
      sym (ap (λ (c : Content). item_at c place) (safe.committed.others part is))
  item-held part (Some shape) is place none = (has part shape is).each place none

  -- once the images are put back, each place has the committed record
  item-back : (part : ℕ) (found : Option Shape)
      (is : shape_by geometry (committed 0) part ≡ found) (place : List ℕ)
      (kept : Option BeforeImage) → oldest images part place ≡ kept
      → kept_or kept (standing_of (item_at (held part found is) place))
      ≡ standing_of (item_at (committed part) place)
  item-back part found is place (Some old) here = safe.committed.olds part place old here
  item-back part found is place None none = ap standing_of (item-held part found is place none)

  held-ascends : (part : ℕ) (found : Option Shape)
      (is : shape_by geometry (committed 0) part ≡ found) → Ascends (held part found is)
  held-ascends part None is = none-ascend
  held-ascends part (Some shape) is =
      (stands_content shape image (has part shape is).content (has part shape is).stands).ascends

  each-ascends : (part : ℕ) → Ascends (contents part)
  each-ascends part = held-ascends part (shape_by geometry (committed 0) part) refl

  is-back : (part : ℕ)
      → put_back part images (standing (contents part)) ≡ standing (committed part)
  is-back part = same_items (put_back part images (standing (contents part)))
      (standing (committed part)) (records-ascend part images (contents part) (each-ascends part))
      (stands-ascends (committed part) (safe.committed.each part))
      (λ place. back-record part images (contents part) place (each-ascends part)
      ∙ item-back part (shape_by geometry (committed 0) part) refl place
      (oldest images part place) refl
      ∙ sym (stands-item (committed part) place (safe.committed.each part)))

  laid-same : (part : ℕ) → shapes_by geometry log contents part ≡ shape_by geometry (committed 0)
      part
  laid-same part = ap (λ (c : Content). shape_by geometry c part) (is-back 0)
      ∙ shape-stands geometry (committed 0) part

  -- It recovers to the records of the committed contents, and has their items where nothing is put
  -- back.
  pub image_recovers : RecoversItems geometry number log committed image
  image_recovers = record {
    recovers = record {
      log = log;
      contents = contents;
      stands = record {
        header = safe.header;
        log_is = safe.log_is;
        catalog = subst (IsCatalog geometry) (sym (is-back 0))
            (catalog-stands geometry (committed 0) safe.committed.catalog);
        owners = owners;
        past = safe.past;
        laid = λ part shape is. held-stands part (shape_by geometry (committed 0) part) refl shape
            (sym (laid-same part) ∙ is);
        within = λ part shape is. (has part shape (sym (laid-same part) ∙ is)).within;
        others = λ part is. none-held part (shape_by geometry (committed 0) part) refl
            (sym (laid-same part) ∙ is);
      };
      inside = λ part shape is. safe.committed.inside part shape (sym (laid-same part) ∙ is);
      images = backs-by (shape_by geometry (committed 0)) (shapes_by geometry log contents)
          laid-same images safe.committed.images;
      alone = safe.committed.alone;
      room = λ part shape is. (safe.parts part shape (sym (laid-same part) ∙ is)).room;
      back = λ part. sym (is-back part);
    };
    log_is = refl;
    items = λ part place none.
        item-held part (shape_by geometry (committed 0) part) refl place none;
  }

-- A volume recovers to contents that are the same, part by part.
pub recovers-same : (geometry : Geometry) (number : ℕ) (image : Image)
    (recovered other : ℕ → Content) → ((part : ℕ) → other part ≡ recovered part)
    → Recovers geometry number image recovered → Recovers geometry number image other
recovers-same geometry number image recovered other same is = record {
  log = is.log;
  contents = is.contents;
  stands = is.stands;
  inside = is.inside;
  images = is.images;
  alone = is.alone;
  room = is.room;
  back = λ part. same part ∙ is.back part;
}

-- ---- what a crash may leave

pub part-in : (shape : Shape) (owners : Owners) (part : ℕ) (images : List BeforeImage)
    (content : Content)
    (now : Seen) → IsPartSafe shape owners part images content now → (image : Image)
    → Rattle.vr_types.specs.Regions.IsImageOn
    (Rattle.vr_space.specs.Part.InPart shape owners) now.count now.may image
    → IsPartIn shape owners part images content image
part-in shape owners part images content now safe image left = record {
  has = only-weaken shape owners
      (Rattle.vr_space.specs.Part.MayHold shape now.may) _ safe.items image
      (sound-image shape owners now safe.sound image left);
  room = room-image shape owners (lengths_kept images part) now safe.sound safe.room image left;
}

-- Each image of a safe volume is a safe one.
pub each_image_is_safe : (geometry : Geometry) (number : ℕ) (owners : Owners) (log : LogNow)
    (committed : List LogRecord → ℕ → Content) (now : Seen)
    → IsSafe geometry number owners log committed now → (image : Image) → Left now image
    → IsSafeImage geometry number owners log committed image
each_image_is_safe geometry number owners log committed now safe image left =
    let has : HasLog log image =
    safe.logs image (record { each = λ n below inside. left.each n below }) in (
      has.0,
      has.2,
      record {
        past = safe.past;
        header = safe.header (block_at image 0)
            (left.each 0 (omega (arith, safe.blocks.count, safe.allowed.two_areas)));
        log_is = subst (λ (g : Geometry). Spells g image has.0) safe.shape has.1;
        committed = (safe.by_log has.0 has.2).committed;
        parts = λ part shape is. part-in shape owners part (images_of has.0.records)
            (committed has.0.records part) now
            ((safe.by_log has.0 has.2).parts part shape is) image
            (record { each = λ n below inside. left.each n below });
      },
    )
