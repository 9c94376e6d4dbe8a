-- What a change makes of the state, as a first change of the place, a further one, or one that is
-- kept again.
use Rattle.std.proofs.Common.{◌≡◌, ◌⊎◌, inl, inr, ℕ, Bool, true, false, cond, List, []}
use Rattle.std.proofs.Common.{◌∷◌, ◌++◌, Option, Some, None, refl, sym, ap, subst, ◌∙◌, arith, map}
use Rattle.std.proofs.Common.{◌&&◌, ◌||◌, ◌+◌}
use Rattle.std.specs.Prelude.{All}
use Rattle.std.proofs.lemmas.Bool.{true≢false}
use Rattle.std.proofs.lemmas.List.{append-nil}
use Rattle.std.proofs.lemmas.List.Elements.{All-cons, All-head, All-nil, All-tail}
use Rattle.vr_types.specs.Content.{Item, item_at}
use Rattle.vr_types.specs.Locks.{same_unit}
use Rattle.vr_types.specs.Seen.{Seen}
use Rattle.vr_types.specs.declared.unit.PartNo.{PartNo}
use Rattle.vr_types.specs.declared.unit.Unit.{Unit as UnitOfRecovery}
use Rattle.vr_history.specs.State.{BeforeImage, Logged, State, is_kept, is_logged}
use Rattle.vr_history.proofs.CallerLemmas.{unit_self}
use Rattle.vr_log.specs.LogNow.{LogNow}
use Rattle.vr_log.specs.declared.record.LogRecord.{LogRecord}
use Rattle.vr_undo.specs.Records.{has_at, images_in, is_at, is_logged_in}
use Rattle.vr_undo.specs.Records.{place_of}
use Rattle.vr_undo.proofs.CallerLemmas.{logged-at}
use Rattle.vr_volume.specs.PutBack.{images_of, is_image_of, oldest}
use Rattle.vr_volume.specs.Steps.{Changing, IsFirstChange, IsKeptAgain, IsNextChange, image_by}
use Rattle.vr_volume.proofs.Alone.{is-there}
use Rattle.vr_store.specs.Change.{IsMadeOf, IsReadyBy, IsStep, need_with}
use Rattle.vr_store.specs.Store.{StoreNow}
use Rattle.vr_store.specs.declared.prepared.Prepared.{Prepared}

some-none : {X : Type 0} {x : X} → Some x ≡ None → ⊥
some-none same = cc

some-same : {X : Type 0} {x y : X} → Some x ≡ Some y → x ≡ y
some-same same = cc

-- ---- images of one place

module _ (unit : UnitOfRecovery) (part : ℕ) (place : List ℕ) where
  -- each image of the place is the unit's
  abbrev pub Own : BeforeImage → Type 0
  Own image = image.part ≡ part → image.place ≡ place → image.unit ≡ unit

  same-self : (image : BeforeImage) → image.unit ≡ unit → same_unit unit image.unit ≡ true
  same-self image own = ap (same_unit unit) own ∙ unit_self unit

  own-there : (image : BeforeImage) → Own image → is_image_of part place image ≡ true
      → image.unit ≡ unit
  own-there image own is = let there = is-there part place image is in own there.0 (sym there.1)

  own-at : (image : BeforeImage) → Own image → (here : Bool)
      → is_image_of part place image ≡ here → is_at unit part place image ≡ here
  own-at image own true is =
      ap (λ (b : Bool). b && is_image_of part place image)
      (same-self image (own-there image own is)) ∙ is
  own-at image own false is = ap (λ (b : Bool). same_unit unit image.unit && b) is
      ∙ and-false (same_unit unit image.unit)
    where
      and-false : (b : Bool) → (b && false) ≡ false
      and-false true = refl
      and-false false = refl

  -- what the unit has there, or that there is none
  pub record HasOwn (images : List BeforeImage) : Type 0 where
    pub image : BeforeImage
    pub is : oldest images part place ≡ Some image
    pub own : image.unit ≡ unit

  abbrev pub Found : List BeforeImage → Bool → Type 0
  Found images true = HasOwn images
  Found images false = oldest images part place ≡ None

  pub found-by : (images : List BeforeImage) → All Own images → (has : Bool)
      → has_at unit part place images ≡ has → Found images has
  found-by [] all true is = absurd (true≢false (sym is))
  found-by [] all false is = refl
  found-by (image ∷ images) all has is =
      by_test (is_image_of part place image) refl has is
      (λ rest same. found-by images (All-tail Own image images all) rest same)
    where
      mine : Own image
      mine = All-head Own image images all

      found-more : (has : Bool) → is_image_of part place image ≡ false → Found images has
          → Found (image ∷ images) has
      found-more true out found = record {
        image = found.image;
        is = ap (λ (b : Bool). cond b (Some image) (oldest images part place)) out ∙ found.is;
        own = found.own;
      }
      found-more false out found =
          ap (λ (b : Bool). cond b (Some image) (oldest images part place)) out ∙ found

      here-true : (has : Bool) → is_image_of part place image ≡ true
          → (true || has_at unit part place images) ≡ has → Found (image ∷ images) has
      here-true true here same = record {
        image = image;
        is = ap (λ (b : Bool). cond b (Some image) (oldest images part place)) here;
        own = own-there image mine here;
      }
      here-true false here same = absurd (true≢false same)

      by_test : (here : Bool) → is_image_of part place image ≡ here → (has : Bool)
          → has_at unit part place (image ∷ images) ≡ has
          → ((rest : Bool) → has_at unit part place images ≡ rest → Found images rest)
          → Found (image ∷ images) has
      by_test true here has same further = here-true has here
          (sym (ap (λ (b : Bool). b || has_at unit part place images)
          (own-at image mine true here)) ∙ same)
      by_test false here has same further = found-more has here (further has
          (sym (ap (λ (b : Bool). b || has_at unit part place images)
          (own-at image mine false here)) ∙ same))

  -- where the unit keeps none, none of its images is found
  pub none-of : (images : List BeforeImage) (image : BeforeImage)
      → oldest images part place ≡ Some image → image.unit ≡ unit
      → has_at unit part place images ≡ true
  none-of [] image is own = absurd (some-none (sym is))
  none-of (first ∷ images) image is own =
      by_test (is_image_of part place first) refl is (none-of images image)
    where
      or-true : (b : Bool) → (b || true) ≡ true
      or-true true = refl
      or-true false = refl

      by_test : (here : Bool) → is_image_of part place first ≡ here
          → cond here (Some first) (oldest images part place) ≡ Some image
          → (oldest images part place ≡ Some image → image.unit ≡ unit
          → has_at unit part place images ≡ true)
          → has_at unit part place (first ∷ images) ≡ true
      by_test true here same further =
          ap (λ (b : Bool). b || has_at unit part place images)
          (ap (λ (b : Bool). b && is_image_of part place first)
          (same-self first (ap (λ (i : BeforeImage). i.unit) (some-same same) ∙ own)) ∙ here)
      by_test false here same further =
          ap (λ (b : Bool). is_at unit part place first || b) (further same own)
          ∙ or-true (is_at unit part place first)

  -- what is kept is found
  pub some-of : (images : List BeforeImage) → oldest images part place ≡ None
      → has_at unit part place images ≡ false
  some-of [] none = refl
  some-of (first ∷ images) none =
      by_test (is_image_of part place first) refl none (some-of images)
    where
      and-none : (b : Bool) → (b && false) ≡ false
      and-none true = refl
      and-none false = refl

      by_test : (here : Bool) → is_image_of part place first ≡ here
          → cond here (Some first) (oldest images part place) ≡ None
          → (oldest images part place ≡ None → has_at unit part place images ≡ false)
          → has_at unit part place (first ∷ images) ≡ false
      by_test true here same further = absurd (some-none same)
      by_test false here same further =
          ap (λ (b : Bool). (same_unit unit first.unit && b) || has_at unit part place images) here
          ∙ ap (λ (b : Bool). b || has_at unit part place images)
          (and-none (same_unit unit first.unit))
          ∙ further same

all-places : (P : Logged → Type 0) (images : List BeforeImage) → All P (map place_of images)
    → All (λ image. P (place_of image)) images
all-places P [] all = All-nil (λ image. P (place_of image))
all-places P (image ∷ images) all = All-cons (λ i. P (place_of i)) image images
    (All-head P (place_of image) (map place_of images) all)
    (all-places P images (All-tail P (place_of image) (map place_of images) all))

-- ---- the step

module _ (number : ℕ) (store : StoreNow) (unit : UnitOfRecovery) (part : PartNo) (place : List ℕ)
    (prepared : Prepared) (was : Option (List ℕ)) (old : State) (now : Seen)
    (ready : IsReadyBy number store unit part place prepared was old now) where
  abbrev pub images : List BeforeImage
  images = images_in ready.kept.old

  abbrev log : LogNow
  log = store.log

  -- the change that is made
  abbrev pub change-by : Option Item → Changing
  change-by new = record { unit = unit; part = part; place = place; old = was; new = new }

  kept-is : images ≡ images_of log.records
  kept-is = ready.kept.stored.volume.kept

  pub own-images : All (Own unit part.0 place) images
  own-images = all-places
      (λ (l : Logged). l.part ≡ part.0 → l.place ≡ place → l.unit ≡ unit) images
      (subst (All (λ (l : Logged). l.part ≡ part.0 → l.place ≡ place → l.unit ≡ unit))
      (sym ready.kept.stored.logged) ready.alone)

  pub found-there : Found unit part.0 place images prepared.logged
  found-there = found-by unit part.0 place images own-images prepared.logged
      (sym ready.prepared_is.logged)

  logged-is : is_logged old unit part.0 place ≡ prepared.logged
  logged-is = ap (is_logged_in unit part.0 place) (sym ready.kept.stored.logged)
      ∙ sym (logged-at unit part.0 place images)
      ∙ sym ready.prepared_is.logged

  -- what is kept of the place is among those that the log has
  none-kept : oldest images part.0 place ≡ None → oldest old.befores part.0 place ≡ None
  none-kept none = by_found (oldest old.befores part.0 place) refl
    where
      by_found : (found : Option BeforeImage) → oldest old.befores part.0 place ≡ found
          → found ≡ None
      by_found None is = refl
      by_found (Some image) is = absurd (some-none
          (sym (ap (λ (i : List BeforeImage). oldest i part.0 place) kept-is
          ∙ ready.kept.stored.volume.logged.kept part.0 place image is) ∙ none))

  own-kept : HasOwn unit part.0 place images → is_kept old unit part.0 place ≡ false
      → oldest old.befores part.0 place ≡ None
  own-kept has none = by_found (oldest old.befores part.0 place) refl
    where
      by_found : (found : Option BeforeImage) → oldest old.befores part.0 place ≡ found
          → found ≡ None
      by_found None is = refl
      by_found (Some image) is =
          let same : has.image ≡ image = some-same (sym has.is
          ∙ ap (λ (i : List BeforeImage). oldest i part.0 place) kept-is
          ∙ ready.kept.stored.volume.logged.kept part.0 place image is) in
          absurd (true≢false (sym (none-of unit part.0 place old.befores image is
          (sym (ap (λ (i : BeforeImage). i.unit) same) ∙ has.own)) ∙ none))

  module _ (new : Option Item) (need : ℕ) (after : State)
      (made : IsMadeOf unit part place new need old after)
      (needs : need ≡ need_with prepared.logged log prepared.rec) where
    abbrev change : Changing
    change = change-by new

    image-kept : (there : Bool) → is_kept old unit part.0 place ≡ there
        → after.befores ≡ cond there old.befores (old.befores ++ image_by change ∷ [])
    image-kept there is = made.befores
        ∙ ap (λ (b : Bool). cond b old.befores (old.befores ++ record {
          unit = unit;
          part = part.0;
          place = place;
          old = item_at (old.contents part.0) place;
        } ∷ [])) is
        ∙ ap (λ (i : Option Item). cond there old.befores (old.befores ++ record {
          unit = unit;
          part = part.0;
          place = place;
          old = i;
        } ∷ [])) (sym ready.stands)

    place-logged : (there : Bool) → prepared.logged ≡ there
        → after.logged ≡ old.logged ++ cond there []
        (record { unit = unit; part = part.0; place = place } ∷ [])
    place-logged there is = made.logged
        ∙ ap (λ (b : Bool). old.logged ++ cond b []
        (record { unit = unit; part = part.0; place = place } ∷ [])) (logged-is ∙ is)

    first : prepared.logged ≡ false → oldest images part.0 place ≡ None
        → IsFirstChange log change old after
    first logged none = record {
      free = sym (ap (λ (i : List BeforeImage). oldest i part.0 place) kept-is) ∙ none;
      item = ready.stands;
      contents = made.contents;
      befores = image-kept false (some-of unit part.0 place old.befores (none-kept none));
      logged = place-logged false logged;
      used = made.used
          ∙ ap (λ (n : ℕ). old.used + n)
          (needs ∙ ap (λ (b : Bool). need_with b log prepared.rec) logged
          ∙ ap (λ (rec : LogRecord). need_with false log rec) ready.prepared_is.rec);
      numbers = made.numbers;
    }

    logged-same : prepared.logged ≡ true → after.logged ≡ old.logged
    logged-same logged = place-logged true logged ∙ append-nil old.logged

    used-same : prepared.logged ≡ true → after.used ≡ old.used
    used-same logged =
        let none : need ≡ 0 = needs ∙ ap (λ (b : Bool). need_with b log prepared.rec) logged in
        made.used ∙ ap (λ (n : ℕ). old.used + n) none ∙ omega arith

    next : prepared.logged ≡ true → is_kept old unit part.0 place ≡ true
        → IsNextChange change old after
    next logged kept = record {
      kept = λ none. true≢false (sym kept ∙ some-of unit part.0 place old.befores none);
      contents = made.contents;
      befores = image-kept true kept;
      logged = logged-same logged;
      used = used-same logged;
      numbers = made.numbers;
    }

    again : prepared.logged ≡ true → HasOwn unit part.0 place images
        → is_kept old unit part.0 place ≡ false → IsKeptAgain log change old after
    again logged has kept = record {
      image = has.image;
      image_is = sym (ap (λ (i : List BeforeImage). oldest i part.0 place) kept-is) ∙ has.is;
      own = has.own;
      none = own-kept has kept;
      item = ready.stands;
      contents = made.contents;
      befores = image-kept false kept;
      logged = logged-same logged;
      used = used-same logged;
      numbers = made.numbers;
    }

    pub step-made : IsStep prepared.logged log change old after
    step-made = by_logged prepared.logged refl found-there
      where
        by_kept : prepared.logged ≡ true → HasOwn unit part.0 place images → (kept : Bool)
            → is_kept old unit part.0 place ≡ kept
            → IsNextChange change old after ⊎ IsKeptAgain log change old after
        by_kept logged has true is = inl (next logged is)
        by_kept logged has false is = inr (again logged has is)

        by_logged : (there : Bool) → prepared.logged ≡ there
            → Found unit part.0 place images there → IsStep there log change old after
        by_logged true logged found =
            by_kept logged found (is_kept old unit part.0 place) refl
        by_logged false logged found = first logged found
