-- What a log with one before-image more leaves of a safe volume.
use Rattle.std.proofs.Common.{◌≡◌, ◌⊎◌, inl, inr, ⊎_elim, ◌≤◌, ◌<◌, ℕ, Bool, true}
use Rattle.std.proofs.Common.{false, cond, List, [], ◌∷◌, ◌++◌, Option, Some, None, refl, sym, ap}
use Rattle.std.proofs.Common.{subst, ◌∙◌, arith, length, bytes_eq, ◌==◌, ◌&&◌}
use Rattle.std.specs.Prelude.{All, IfSome}
use Rattle.std.specs.Option.{option_and_then, option_map, option_or}
use Rattle.std.proofs.lemmas.Bool.{cases_lt, true≢false}
use Rattle.std.proofs.lemmas.List.{length-append, take-append-le, take_all}
use Rattle.std.proofs.lemmas.Slice.Eq.{bytes_eq-Decides}
use Rattle.std.proofs.lemmas.Bool.Decides.{Decides-eqb}
use Rattle.std.proofs.lemmas.List.Elements.{All-append, All-cons, All-nil}
use Rattle.vr_types.specs.Content.{Content, Standing, item_at, record_of}
use Rattle.vr_types.specs.Seen.{Left, Seen}
use Rattle.vr_types.specs.declared.geometry.Geometry.{Geometry}
use Rattle.vr_types.specs.declared.unit.PartNo.{PartNo}
use Rattle.vr_types.specs.declared.unit.Unit.{Unit as UnitOfRecovery}
use Rattle.vr_space.specs.Owners.{Owners}
use Rattle.vr_space.specs.Numbered.{IsKeptLength}
use Rattle.vr_space.specs.Part.{HasKeptRoom, HasOnly, IsPlaceOf, IsRecordOf, KeyedShape, MayGoBack}
use Rattle.vr_space.specs.Part.{MayHold, NumberedShape, Shape}
use Rattle.vr_space.specs.Room.{Lengths, with_length}
use Rattle.vr_space.proofs.CallerLemmas.{keep-room, sound-image}
use Rattle.vr_history.specs.State.{BeforeImage}
use Rattle.vr_history.proofs.CallerLemmas.{unit_self}
use Rattle.vr_log.specs.Content.{Content as LogContent}
use Rattle.vr_log.specs.LogNow.{IsLogOf, IsPrefixOf, LogNow, first_of, with_record}
use Rattle.vr_log.specs.declared.record.LogRecord.{LogRecord}
use Rattle.vr_log.specs.declared.record.LogRecord.TheVariants.{Before}
use Rattle.vr_undo.proofs.CallerLemmas.{record-stands}
use Rattle.vr_volume.specs.Laid.{shape_by}
use Rattle.vr_volume.specs.Logged.{IsFirstBefore}
use Rattle.vr_volume.specs.PutBack.{AreAlone, images_of, is_image_of, length_of, lengths_kept}
use Rattle.vr_volume.specs.PutBack.{oldest, standing_of}
use Rattle.vr_log.proofs.Growing.{has_more}
use Rattle.vr_volume.specs.Safe.{IsPartSafe, IsSafe, IsSafeBy}
use Rattle.vr_volume.specs.Volume.{CanPutBack}
use Rattle.vr_volume.proofs.Images.{image_of, images-append, kept_more, kept-append}
use Rattle.vr_volume.proofs.Alone.{alone-append}
use Rattle.vr_volume.proofs.Images.{oldest-append}
use Rattle.vr_space.proofs.CallerLemmas.{record-read}

-- ---- which logs there may be with one record more

module _ (log : LogNow) (rec : LogRecord) where
  -- all records, with this one
  abbrev pub with_all : LogContent
  with_all = record { generation = log.generation; records = log.records ++ rec ∷ [] }

  pub log-cases : (content : LogContent) → IsLogOf (with_record log rec) content
      → IsLogOf log content ⊎ (content ≡ with_all)
  log-cases content is = ⊎_elim by_prefix (λ behind. inl (inr behind)) is
    where
      contents-of : (records : List LogRecord) → LogContent
      contents-of records = record { generation = log.generation; records = records }

      by_count : (has : IsPrefixOf (with_record log rec) content)
          → (has.count ≤ length log.records) ⊎ (length log.records < has.count)
          → IsLogOf log content ⊎ (content ≡ with_all)
      by_count has below = ⊎_elim
          (λ within. inl (inl (record {
            count = has.count;
            forced = has.forced;
            all = within;
            is = has.is ∙ ap contents-of (take-append-le has.count log.records
                (rec ∷ []) within);
          })))
          (λ past. inr (has.is ∙ ap contents-of (take_all has.count (log.records ++ rec ∷ [])
          (omega (arith, past, length-append log.records (rec ∷ []))))))
          below

      by_prefix : IsPrefixOf (with_record log rec) content
          → IsLogOf log content ⊎ (content ≡ with_all)
      by_prefix has = by_count has (⊎_elim (λ past. inr past) (λ within. inl within)
          (cases_lt (length log.records) has.count))

-- ---- a before-image more

pub option-first : {X : Type 0} (one other : Option X) → option_or one other ≡ None → one ≡ None
option-first None other none = refl
option-first (Some x) other none = absurd (cc)

-- a record may go back where one of its length is kept
length-same : (relative : Bool) (n : ℕ) → IsKeptLength relative n n
length-same true n = omega arith
length-same false n = refl

pub goes-back : (shape : Shape) (n : ℕ) → MayGoBack shape n n
goes-back (KeyedShape part) n = omega arith
goes-back (NumberedShape part) n = length-same part.relative n

shape-is : (one other : Shape) → Some one ≡ Some other → one ≡ other
shape-is one other same = cc

module _ (geometry : Geometry) (number : ℕ) (owners : Owners) (log : LogNow)
    (committed : List LogRecord → ℕ → Content) (a : Seen) (unit : UnitOfRecovery) (part : PartNo)
    (place : List ℕ) (old : Option (List ℕ)) (safe : IsSafe geometry number owners log committed a)
    (left : Left a a.cur) (next : IsFirstBefore geometry log committed unit part place old) where
  abbrev pub rec : LogRecord
  rec = Before unit part place old

  abbrev image : BeforeImage
  image = image_of unit part place old

  -- by all records that there were
  by-all : IsSafeBy geometry owners log.records (committed log.records) a
  by-all = subst (λ
      (records : List LogRecord). IsSafeBy geometry owners records (committed records) a)
      (take_all (length log.records) log.records (omega arith))
      (safe.by_log (first_of log (length log.records)) (inl (record {
        count = length log.records;
        forced = next.forced;
        all = omega arith;
        is = refl;
      })))

  images-more : images_of (log.records ++ rec ∷ []) ≡ images_of log.records ++ image ∷ []
  images-more = images-append log.records unit part place old (unit_self unit) next.live

  oldest-more : (other : ℕ) (at : List ℕ) → oldest (images_of (log.records ++ rec ∷ [])) other at
      ≡ option_or (oldest (images_of log.records) other at)
      (cond (is_image_of other at image) (Some image) None)
  oldest-more other at =
      ap (λ (images : List BeforeImage). oldest images other at) images-more
      ∙ oldest-append (images_of log.records) image other at

  -- the image is that of its place alone
  is-there : (other : ℕ) (at : List ℕ) → is_image_of other at image ≡ true
      → (part.0 ≡ other) × (at ≡ place)
  is-there other at is = by_part (part.0 == other) refl is
    where
      by_part : (mine : Bool) → (part.0 == other) ≡ mine → (mine && bytes_eq at place) ≡ true
          → (part.0 ≡ other) × (at ≡ place)
      by_part true same there = (
        (Decides-eqb part.0 other).0 same,
        (bytes_eq-Decides at place).0 there,
      )
      by_part false same there = absurd (true≢false (sym there))

  olds-more : (other : ℕ) (at : List ℕ) (found : BeforeImage) (before : Option BeforeImage)
      → oldest (images_of log.records) other at ≡ before
      → option_or before (cond (is_image_of other at image) (Some image) None) ≡ Some found
      → found.old ≡ standing_of (item_at (committed log.records other) at)
  olds-more other at found (Some first) is same =
      by-all.committed.olds other at found (is ∙ same)
  olds-more other at found None is same = by_test (is_image_of other at image) refl same
    where
      by_test : (mine : Bool) → is_image_of other at image ≡ mine
          → cond mine (Some image) None ≡ Some found
          → found.old ≡ standing_of (item_at (committed log.records other) at)
      by_test true mine here =
          let there = is-there other at mine in
          let found-is : image ≡ found = cc in
          sym (ap (λ (i : BeforeImage). i.old) found-is) ∙ sym (record-stands old)
          ∙ ap standing_of (next.item
          ∙ ap (λ (p : ℕ). item_at (committed log.records p) place) there.0
          ∙ sym (ap (item_at (committed log.records other)) there.1))
      by_test false mine here = absurd (cc)

  module _ (other : ℕ) (shape : Shape)
      (laid : shape_by geometry (committed log.records 0) other ≡ Some shape) where
    abbrev mine : IsPartSafe shape owners other (images_of log.records) (committed log.records
        other) a
    mine = by-all.parts other shape laid

    abbrev kept : Lengths
    kept = lengths_kept (images_of log.records) other

    same-shape : part.0 ≡ other → next.shape ≡ shape
    same-shape here = shape-is next.shape shape
        (sym next.laid ∙ ap (shape_by geometry (committed log.records 0)) here ∙ laid)

    -- the record that stands may be kept
    room-kept : (bytes : List ℕ) → old ≡ Some bytes → part.0 ≡ other
        → HasKeptRoom shape (with_length kept place (length bytes)) a
    room-kept bytes is here = keep-room shape owners kept place (length bytes) a
        (subst (λ (s : Shape). IsPlaceOf s place) (same-shape here) next.at)
        mine.sound mine.room
        (λ item held. (
          bytes,
          mine.items place item held
              (sym (ap (λ (p : ℕ). oldest (images_of log.records) p place) here) ∙ next.first)
              ∙ sym (ap (λ (p : ℕ). item_at (committed log.records p) place) here)
              ∙ sym next.item ∙ ap (option_map Standing) is,
          goes-back shape (length bytes),
        ))

    room-by : (same : Bool) → (part.0 == other) ≡ same → (was : Option (List ℕ)) → old ≡ was
        → HasKeptRoom shape (kept_more kept
        (cond same (length_of place (option_and_then record_of (option_map Standing was))) None)) a
    room-by false same was is = mine.room
    room-by true same None is = mine.room
    room-by true same (Some bytes) is =
        room-kept bytes is ((Decides-eqb part.0 other).0 same)

    part-more : IsPartSafe shape owners other (images_of (log.records ++ rec ∷ []))
        (committed log.records other) a
    part-more = record {
      sound = mine.sound;
      items = λ at found held none. mine.items at found held
          (option-first (oldest (images_of log.records) other at) _
          (sym (oldest-more other at) ∙ none));
      room = subst (λ (lengths : Lengths). HasKeptRoom shape lengths a)
          (sym (ap (λ (images : List BeforeImage). lengths_kept images other) images-more
          ∙ kept-append (images_of log.records) image other))
          (room-by (part.0 == other) refl old refl);
    }

  -- ---- it may be put back

  abbrev safe-here : IsPartSafe next.shape owners part.0 (images_of log.records)
      (committed log.records part.0) a
  safe-here = by-all.parts part.0 next.shape next.laid

  abbrev stands : HasOnly next.shape owners (MayHold next.shape a.may) a.cur
  stands = sound-image next.shape owners a safe-here.sound a.cur (record {
    each = λ n below inside. left.each n below;
  })

  -- what stands at its place is the record that it has
  record-old : (bytes : List ℕ) → old ≡ Some bytes → IsRecordOf next.shape place bytes
  record-old bytes is = record-read next.shape a.cur stands.content stands.stands place bytes
      (safe-here.items place (item_at stands.content place) (stands.each place) next.first
      ∙ sym next.item ∙ ap (option_map Standing) is)

  can-put-back : CanPutBack (shape_by geometry (committed log.records 0)) image
  can-put-back = record {
    shape = next.shape;
    laid = next.laid;
    place = next.at;
    old = by_old old refl;
  }
    where
      by_old : (was : Option (List ℕ)) → old ≡ was
          → IfSome (option_and_then record_of (option_map Standing was))
          (IsRecordOf next.shape place)
      by_old None is = tt
      by_old (Some bytes) is = record-old bytes is

  images-back : All (CanPutBack (shape_by geometry (committed log.records 0)))
      (images_of (log.records ++ rec ∷ []))
  images-back = subst (All (CanPutBack (shape_by geometry (committed log.records 0))))
      (sym images-more)
      (All-append (CanPutBack (shape_by geometry (committed log.records 0)))
      (images_of log.records) (image ∷ []) by-all.committed.images
      (All-cons (CanPutBack (shape_by geometry (committed log.records 0))) image [] can-put-back
      (All-nil (CanPutBack (shape_by geometry (committed log.records 0))))))

  by-more : IsSafeBy geometry owners (log.records ++ rec ∷ []) (committed (log.records ++ rec ∷
      [])) a
  by-more = subst (λ (contents : ℕ
      → Content). IsSafeBy geometry owners (log.records ++ rec ∷ []) contents
      a) (sym next.same)
      (record {
        committed = record {
          each = by-all.committed.each;
          catalog = by-all.committed.catalog;
          inside = by-all.committed.inside;
          others = by-all.committed.others;
          images = images-back;
          alone = subst AreAlone (sym images-more)
              (alone-append (images_of log.records) image by-all.committed.alone next.first);
          olds = λ other at found is. olds-more other at found
              (oldest (images_of log.records) other at) refl (sym (oldest-more other at) ∙ is);
        };
        parts = λ other shape laid. part-more other shape laid;
      })

  -- The blocks are safe whether or not an image has the record.
  pub safe-more : IsSafe geometry number owners (with_record log rec) committed a
  safe-more = record {
    allowed = safe.allowed;
    past = safe.past;
    blocks = safe.blocks;
    shape = safe.shape;
    header = safe.header;
    logs = λ image left. has_more log rec image (safe.logs image left);
    by_log = λ content is. ⊎_elim (λ before. safe.by_log content before)
        (λ all. subst (λ
        (c : LogContent). IsSafeBy geometry owners c.records (committed c.records) a)
        (sym all) by-more) (log-cases log rec content is);
  }
