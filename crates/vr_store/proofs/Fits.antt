-- Before-images in memory that are fit for the parts: what calls leave of that, and of a log that is
-- idle.
use Rattle.std.proofs.Common.{◌≡◌, ◌≢◌, ◌++◌, ◌∷◌, ◌&&◌, ℕ, Bool, true, false, not, cond, List, []}
use Rattle.std.proofs.Common.{Option, Some, None, refl, sym, ap, subst, ◌∙◌, map, if◌then◌else◌}
use Rattle.std.specs.Borrow.{Bor}
use Rattle.std.specs.Prelude.{All, IfSome}
use Rattle.std.specs.List.{cons_option, list_any}
use Rattle.std.specs.Option.{option_copied, option_map}
use Rattle.std.proofs.lemmas.List.Elements.{All-append, All-cons, All-head, All-nil, All-tail}
use Rattle.std.proofs.lemmas.List.Elements.{All-weaker}
use Rattle.vr_types.specs.Content.{Standing}
use Rattle.vr_types.specs.declared.unit.PartNo.{PartNo}
use Rattle.vr_types.specs.declared.unit.Unit.{Unit as UnitOfRecovery}
use Rattle.vr_space.specs.Part.{IsGiven, IsPlaceOf, Shape}
use Rattle.vr_log.specs.Live.{EndsLive, is_in, live_after, live_from, live_in}
use Rattle.vr_log.specs.LogNow.{LogNow}
use Rattle.vr_log.specs.declared.record.LogRecord.{LogRecord}
use Rattle.vr_log.specs.declared.record.LogRecord.TheVariants.{Before as BeforeRecord, End}
use Rattle.vr_history.specs.Effects.{without_last}
use Rattle.vr_history.specs.State.{BeforeImage}
use Rattle.vr_undo.specs.Records.{before_of, befores_of, has_at, image_of, kept_image}
use Rattle.vr_undo.specs.Records.{with_image, without_last_by}
use Rattle.vr_undo.specs.declared.record.KeptRecord.{KeptRecord}
use Rattle.vr_store.specs.Change.{IsBefore, log_with}
use Rattle.vr_store.specs.Parts.{but_split}
use Rattle.vr_store.specs.Store.{HasLength, IsFitImage, IsOldOf, PartNow, part_among, shape_among}
use Rattle.vr_store.proofs.PlacedParts.{shapes-same}

-- ---- by the parts

no-shape : (found : Option PartNow) → option_map (λ (part : PartNow). part.shape) found ≡ None
    → found ≡ None
no-shape None none = refl
no-shape (Some part) none = absurd cc

-- the shapes stay
pub fit-parts : (new old : List PartNow) → map but_split new ≡ map but_split old
    → (image : BeforeImage) → IsFitImage old image → IsFitImage new image
fit-parts new old same image is =
    let shapes = shapes-same new old same image.part in
    record {
      part = λ none. is.part (no-shape (part_among old image.part)
          (sym shapes ∙ ap (option_map (λ (part : PartNow). part.shape)) none));
      place = subst (λ (found : Option Shape). IfSome found (λ shape. IsPlaceOf shape image.place))
          (sym shapes) is.place;
      old = subst (λ (found : Option Shape).
          IfSome found (λ shape. IsOldOf shape image.place image.old)) (sym shapes) is.old;
      long = subst (λ (found : Option Shape). IfSome found HasLength) (sym shapes) is.long;
    }

pub fits-parts : (new old : List PartNow) → map but_split new ≡ map but_split old
    → (images : List BeforeImage) → All (IsFitImage old) images → All (IsFitImage new) images
fits-parts new old same images = All-weaker (IsFitImage old) (IsFitImage new)
    (fit-parts new old same) images

-- ---- one more is kept

given-old : (shape : Shape) (place : List ℕ) (bytes : Option (Bor (List ℕ)))
    → IsGiven shape place bytes → IsOldOf shape place (option_map Standing (option_copied bytes))
given-old shape place None is = tt
given-old shape place (Some bytes) is = is

pub if-some : {X : Type 0} (P Q : X → Type 0) → ((x : X) → P x → Q x) → (found : Option X)
    → IfSome found P → IfSome found Q
if-some P Q each None is = tt
if-some P Q each (Some x) is = each x is

pub fit-new : (parts : List PartNow) (unit : UnitOfRecovery) (part : PartNo) (place : List ℕ)
    (old : Option (Bor (List ℕ))) → part_among parts part.0 ≢ None
    → IfSome (shape_among parts part.0) (λ shape. IsPlaceOf shape place)
    → IfSome (shape_among parts part.0) (λ shape. IsGiven shape place old)
    → IfSome (shape_among parts part.0) HasLength
    → IsFitImage parts (image_of unit (before_of part place (option_copied old)))
fit-new parts unit part place old there at item long = record {
  part = there;
  place = at;
  old = if-some (λ (shape : Shape). IsGiven shape place old)
      (λ (shape : Shape). IsOldOf shape place (option_map Standing (option_copied old)))
      (λ shape. given-old shape place old) (shape_among parts part.0) item;
  long = long;
}

pub fits-kept : (parts : List PartNow) (unit : UnitOfRecovery) (image : BeforeImage)
    (images new : List BeforeImage) → IsFitImage parts image → All (IsFitImage parts) images
    → new ≡ with_image unit image images → All (IsFitImage parts) new
fits-kept parts unit image images new one all is =
    subst (All (IsFitImage parts)) (sym is) (by_test (has_at unit image.part image.place images))
  where
    by_test : (test : Bool) → All (IsFitImage parts) (cond test images (images ++ image ∷ []))
    by_test true = all
    by_test false = All-append (IsFitImage parts) images (image ∷ []) all
        (All-cons (IsFitImage parts) image [] one (All-nil (IsFitImage parts)))

-- ---- one fewer is

module _ (P : BeforeImage → Type 0) where
  first-of : (image : Option BeforeImage) (rest : List BeforeImage)
      → All P (cons_option image rest) → IfSome image P
  first-of None rest all = tt
  first-of (Some image) rest all = All-head P image rest all

  rest-of : (image : Option BeforeImage) (rest : List BeforeImage)
      → All P (cons_option image rest) → All P rest
  rest-of None rest all = all
  rest-of (Some image) rest all = All-tail P image rest all

  more-of : (image : Option BeforeImage) (rest : List BeforeImage) → IfSome image P
      → All P rest → All P (cons_option image rest)
  more-of None rest one all = all
  more-of (Some image) rest one all = All-cons P image rest one all

  -- where a record is taken back
  pub fits-back : (test : KeptRecord → Bool) (records : List KeptRecord)
      → All P (befores_of records) → All P (befores_of (without_last_by test records))
  fits-back test [] all = all
  fits-back test (kept ∷ records) all =
      by_test (test kept && not (list_any test records))
      (rest-of (kept_image kept) (befores_of records) all)
      (fits-back test records (rest-of (kept_image kept) (befores_of records) all))
    where
      by_test : (last : Bool) → All P (befores_of records)
          → All P (befores_of (without_last_by test records))
          → All P (befores_of (cond last records (kept ∷ without_last_by test records)))
      by_test true rest further = rest
      by_test false rest further = more-of (kept_image kept)
          (befores_of (without_last_by test records))
          (first-of (kept_image kept) (befores_of records) all) further

  -- and where the last of a unit is taken out
  pub fits-out : (unit : UnitOfRecovery) (images : List BeforeImage) → All P images
      → All P (without_last unit images)
  fits-out unit [] all = all
  fits-out unit (image ∷ images) all =
      by_test (Rattle.vr_types.specs.Locks.same_unit unit image.unit
      && not (Rattle.vr_history.specs.Effects.keeps_other unit images))
      (All-tail P image images all) (fits-out unit images (All-tail P image images all))
    where
      by_test : (last : Bool) → All P images → All P (without_last unit images)
          → All P (cond last images (image ∷ without_last unit images))
      by_test true rest further = rest
      by_test false rest further = All-cons P image (without_last unit images)
          (All-head P image images all) further

-- ---- an idle log

-- after a before-image a unit is live
no-empty : {X : Type 0} (x : X) (xs : List X) → x ∷ xs ≡ [] → ⊥
no-empty x xs is = cc

live-one : (live : List UnitOfRecovery) (unit : UnitOfRecovery) (part : PartNo) (place : List ℕ)
    (old : Option (List ℕ)) → live_after live (BeforeRecord unit part place old) ≡ [] → ⊥
unfolding live_after
live-one [] unit part place old is = no-empty unit [] is
live-one (one ∷ live) unit part place old is = by_test (is_in unit (one ∷ live)) is
  where
    by_test : (test : Bool) → (if test then one ∷ live else (one ∷ live) ++ unit ∷ []) ≡ [] → ⊥
    by_test true same = no-empty one live same
    by_test false same = no-empty one (live ++ unit ∷ []) same

pub live-before : (rec : LogRecord) → IsBefore rec → (live : List UnitOfRecovery)
    (records : List LogRecord) → live_from live (records ++ rec ∷ []) ≡ [] → ⊥
live-before (BeforeRecord unit part place old) is live [] none =
    live-one live unit part place old none
live-before (BeforeRecord unit part place old) is live (rec ∷ records) none =
    live-before (BeforeRecord unit part place old) is (live_after live rec) records none
live-before (End unit kind) is live records none = absurd is

-- Once a change is logged, or where it isn't, an idle log has no record.
pub idle-made : (old new : LogNow) (logged : Bool) (rec : LogRecord) → IsBefore rec
    → new.records ≡ (log_with logged old rec).records
    → (live_in old.records ≡ [] → old.records ≡ []) → live_in new.records ≡ []
    → new.records ≡ []
idle-made old new true rec is same idle none = same ∙ idle (sym (ap live_in same) ∙ none)
idle-made old new false rec is same idle none =
    absurd (live-before rec is [] old.records (sym (ap live_in same) ∙ none))

pub ends-before : (rec : LogRecord) (live : List UnitOfRecovery) → IsBefore rec → EndsLive live rec
ends-before (BeforeRecord unit part place old) live is = tt
ends-before (End unit kind) live is = absurd is
