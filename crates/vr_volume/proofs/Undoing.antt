-- What a further change of a place leaves, and a before-image that is put back: the log has again
-- what the state logged, and what is committed is what was.
use Rattle.std.proofs.Common.{◌≡◌, ◌≢◌, ◌⊎◌, inl, inr, ⊎_elim, ℕ, Bool, true, false, cond, not, List}
use Rattle.std.proofs.Common.{[], ◌∷◌, Option, Some, None, refl, sym, ap, subst, ◌∙◌, ◌&&◌, ◌||◌}
use Rattle.std.proofs.Common.{filter}
use Rattle.std.specs.Prelude.{All}
use Rattle.std.specs.List.{list_any}
use Rattle.std.proofs.lemmas.Bool.{true≢false}
use Rattle.std.proofs.lemmas.List.Elements.{All-cons, All-head, All-tail}
use Rattle.vr_types.specs.Content.{item_at}
use Rattle.vr_types.specs.Locks.{same_unit}
use Rattle.vr_types.specs.declared.geometry.Geometry.{Geometry}
use Rattle.vr_types.specs.declared.unit.Unit.{Unit as UnitOfRecovery}
use Rattle.vr_log.specs.LogNow.{LogNow}
use Rattle.vr_history.specs.Committed.{kept_or}
use Rattle.vr_history.specs.Effects.{keeps_other, last_of, without_last}
use Rattle.vr_history.specs.State.{BeforeImage, Logged, State}
use Rattle.vr_undo.proofs.CallerLemmas.{stands-once}
use Rattle.vr_volume.specs.Committed.{HasLogged, IsCurrent, IsKeptIn, IsLaidState, IsPast}
use Rattle.vr_volume.specs.Committed.{committed_by}
use Rattle.vr_volume.specs.PutBack.{AreAlone, images_of, is_image_of, oldest, standing_of}
use Rattle.vr_volume.specs.Steps.{Changing, IsChangeOf, IsNextChange, IsPutBack}
use Rattle.vr_volume.proofs.Committing.{item-now}
use Rattle.vr_volume.proofs.Alone.{is-own, is-there}
use Rattle.vr_volume.proofs.Moving.{item-else, item-here, laid-stays}

some-none : {X : Type 0} {x : X} → Some x ≡ None → ⊥
some-none same = cc

-- ---- the last that a unit keeps

-- another image of the place would be the one that is found
other-place : (kept : BeforeImage) (images : List BeforeImage) (part : ℕ) (place : List ℕ)
    (image : BeforeImage) → oldest images kept.part kept.place ≡ None
    → oldest images part place ≡ Some image → is_image_of part place kept ≡ false
other-place kept images part place image alone is = by_test (is_image_of part place kept) refl
  where
    by_test : (b : Bool) → is_image_of part place kept ≡ b → b ≡ false
    by_test false here = refl
    by_test true here =
        let there = is-there part place kept here in
        absurd (some-none (sym is ∙ ap (λ (p : ℕ). oldest images p place) (sym there.0)
        ∙ ap (oldest images kept.part) there.1 ∙ alone))

module _ (unit : UnitOfRecovery) where
  abbrev mine : BeforeImage → Bool
  mine kept = same_unit unit kept.unit

  -- one more before some that the unit keeps isn't the last
  last-later : (kept : BeforeImage) (rest : List BeforeImage) → keeps_other unit rest ≡ true
      → last_of (kept ∷ filter mine rest) ≡ last_of (filter mine rest)
  last-later kept rest there = by_list (filter mine rest) (any-some rest there)
    where
      by_list : (images : List BeforeImage) → (images ≡ [] → ⊥)
          → last_of (kept ∷ images) ≡ last_of images
      by_list [] some = absurd (some refl)
      by_list (first ∷ images) some = refl

      any-some : (images : List BeforeImage) → keeps_other unit images ≡ true
          → filter mine images ≡ [] → ⊥
      any-some [] there none = true≢false (sym there)
      any-some (first ∷ images) there none = by_first (mine first) there none
          (λ further empty. any-some images further empty)
        where
          cons-nil : {X : Type 0} {x : X} {xs : List X} → (x ∷ xs) ≡ [] → ⊥
          cons-nil same = cc

          by_first : (b : Bool) → (b || keeps_other unit images) ≡ true
              → cond b (first ∷ filter mine images) (filter mine images) ≡ []
              → (keeps_other unit images ≡ true → filter mine images ≡ [] → ⊥) → ⊥
          by_first true there none further = cons-nil none
          by_first false there none further = further there none

  -- where none follows, it is the last
  last-only : (kept : BeforeImage) (rest : List BeforeImage) → keeps_other unit rest ≡ false
      → last_of (kept ∷ filter mine rest) ≡ Some kept
  last-only kept rest none = ap (λ (images : List BeforeImage). last_of (kept ∷ images))
      (any-none rest none)
    where
      any-none : (images : List BeforeImage) → keeps_other unit images ≡ false
          → filter mine images ≡ []
      any-none [] none = refl
      any-none (first ∷ images) none = by_first (mine first) none
          (λ further. any-none images further)
        where
          by_first : (b : Bool) → (b || keeps_other unit images) ≡ false
              → (keeps_other unit images ≡ false → filter mine images ≡ [])
              → cond b (first ∷ filter mine images) (filter mine images) ≡ []
          by_first true none further = absurd (true≢false none)
          by_first false none further = further none

  -- what is the last of the unit is found at its place
  pub last-oldest : (befores : List BeforeImage) (image : BeforeImage) → AreAlone befores
      → last_of (filter mine befores) ≡ Some image
      → oldest befores image.part image.place ≡ Some image
  last-oldest [] image alone is = absurd (some-none (sym is))
  last-oldest (kept ∷ rest) image alone is =
      by_kept (mine kept) (keeps_other unit rest) refl is (last-oldest rest image alone.1)
    where
      later : oldest rest image.part image.place ≡ Some image
          → oldest (kept ∷ rest) image.part image.place ≡ Some image
      later further = ap (λ (b : Bool). cond b (Some kept) (oldest rest image.part image.place))
          (other-place kept rest image.part image.place image alone.0 further) ∙ further

      by_kept : (own others : Bool) → keeps_other unit rest ≡ others
          → last_of (cond own (kept ∷ filter mine rest) (filter mine rest)) ≡ Some image
          → (last_of (filter mine rest) ≡ Some image
          → oldest rest image.part image.place ≡ Some image)
          → oldest (kept ∷ rest) image.part image.place ≡ Some image
      by_kept false others there same further = later (further same)
      by_kept true true there same further =
          later (further (sym (last-later kept rest there) ∙ same))
      by_kept true false none same further =
          let one : Some kept ≡ Some image = sym (last-only kept rest none) ∙ same in
          let it : kept ≡ image = cc in
          ap (λ (i : BeforeImage). cond (is_image_of i.part i.place kept) (Some kept)
          (oldest rest i.part i.place)) (sym it)
          ∙ ap (λ (b : Bool). cond b (Some kept) (oldest rest kept.part kept.place)) (is-own kept)
          ∙ one

  -- without it, fewer are found
  without-none : (befores : List BeforeImage) (part : ℕ) (place : List ℕ)
      → oldest befores part place ≡ None → oldest (without_last unit befores) part place ≡ None
  without-none [] part place none = none
  without-none (kept ∷ rest) part place none =
      by_kept (is_image_of part place kept) (mine kept && not (keeps_other unit rest)) refl none
      (without-none rest part place)
    where
      by_kept : (here gone : Bool) → is_image_of part place kept ≡ here
          → cond here (Some kept) (oldest rest part place) ≡ None
          → (oldest rest part place ≡ None → oldest (without_last unit rest) part place ≡ None)
          → oldest (cond gone rest (kept ∷ without_last unit rest)) part place ≡ None
      by_kept true gone is same further = absurd (some-none same)
      by_kept false true is same further = same
      by_kept false false is same further =
          ap (λ (b : Bool). cond b (Some kept) (oldest (without_last unit rest) part place)) is
          ∙ further same

  pub alone-without : (befores : List BeforeImage) → AreAlone befores
      → AreAlone (without_last unit befores)
  alone-without [] alone = tt
  alone-without (kept ∷ rest) alone =
      by_kept (mine kept && not (keeps_other unit rest)) (alone-without rest alone.1)
    where
      by_kept : (gone : Bool) → AreAlone (without_last unit rest)
          → AreAlone (cond gone rest (kept ∷ without_last unit rest))
      by_kept true further = alone.1
      by_kept false further = (without-none rest kept.part kept.place alone.0, further)

  pub all-without : (P : BeforeImage → Type 0) (befores : List BeforeImage) → All P befores
      → All P (without_last unit befores)
  all-without P [] all = all
  all-without P (kept ∷ rest) all =
      by_kept (mine kept && not (keeps_other unit rest))
      (all-without P rest (All-tail P kept rest all))
    where
      by_kept : (gone : Bool) → All P (without_last unit rest)
          → All P (cond gone rest (kept ∷ without_last unit rest))
      by_kept true further = All-tail P kept rest all
      by_kept false further =
          All-cons P kept (without_last unit rest) (All-head P kept rest all) further

  -- its place has none then, and each other what it had
  pub without-here : (befores : List BeforeImage) (image : BeforeImage) → AreAlone befores
      → last_of (filter mine befores) ≡ Some image
      → oldest (without_last unit befores) image.part image.place ≡ None
  without-here [] image alone is = refl
  without-here (kept ∷ rest) image alone is =
      by_kept (mine kept) (keeps_other unit rest) refl is (without-here rest image alone.1)
    where
      later : last_of (filter mine rest) ≡ Some image
          → oldest (without_last unit rest) image.part image.place ≡ None
          → oldest (kept ∷ without_last unit rest) image.part image.place ≡ None
      later found further =
          ap (λ (b : Bool). cond b (Some kept)
          (oldest (without_last unit rest) image.part image.place))
          (other-place kept rest image.part image.place image alone.0
          (last-oldest rest image alone.1 found))
          ∙ further

      by_kept : (own others : Bool) → keeps_other unit rest ≡ others
          → last_of (cond own (kept ∷ filter mine rest) (filter mine rest)) ≡ Some image
          → (last_of (filter mine rest) ≡ Some image
          → oldest (without_last unit rest) image.part image.place ≡ None)
          → oldest (cond (own && not others) rest (kept ∷ without_last unit rest)) image.part
          image.place ≡ None
      by_kept false others there same further = later same (further same)
      by_kept true true there same further =
          let found : last_of (filter mine rest) ≡ Some image =
          sym (last-later kept rest there) ∙ same in
          later found (further found)
      by_kept true false none same further =
          let one : Some kept ≡ Some image = sym (last-only kept rest none) ∙ same in
          let it : kept ≡ image = cc in
          ap (λ (i : BeforeImage). oldest rest i.part i.place) (sym it) ∙ alone.0

  pub without-else : (befores : List BeforeImage) (image : BeforeImage) (part : ℕ)
      (place : List ℕ) → last_of (filter mine befores) ≡ Some image
      → is_image_of part place image ≡ false
      → oldest (without_last unit befores) part place ≡ oldest befores part place
  without-else [] image part place is apart = refl
  without-else (kept ∷ rest) image part place is apart =
      by_kept (mine kept) (keeps_other unit rest) refl is
      (λ found. without-else rest image part place found apart)
    where
      later : oldest (without_last unit rest) part place ≡ oldest rest part place
          → oldest (kept ∷ without_last unit rest) part place ≡ oldest (kept ∷ rest) part place
      later further = ap (cond (is_image_of part place kept) (Some kept)) further

      by_kept : (own others : Bool) → keeps_other unit rest ≡ others
          → last_of (cond own (kept ∷ filter mine rest) (filter mine rest)) ≡ Some image
          → (last_of (filter mine rest) ≡ Some image
          → oldest (without_last unit rest) part place ≡ oldest rest part place)
          → oldest (cond (own && not others) rest (kept ∷ without_last unit rest)) part place
          ≡ oldest (kept ∷ rest) part place
      by_kept false others there same further = later (further same)
      by_kept true true there same further =
          later (further (sym (last-later kept rest there) ∙ same))
      by_kept true false none same further =
          let one : Some kept ≡ Some image = sym (last-only kept rest none) ∙ same in
          let it : kept ≡ image = cc in
          sym (ap (λ (b : Bool). cond b (Some kept) (oldest rest part place))
          (ap (is_image_of part place) it ∙ apart))

-- ---- a further change

module _ (geometry : Geometry) (log : LogNow) (old new : State) (change : Changing)
    (laid : IsLaidState geometry old) (logged : HasLogged log old)
    (of : IsChangeOf geometry old change) where
  abbrev image : BeforeImage
  image = record {
    unit = change.unit;
    part = change.part.0;
    place = change.place;
    old = standing_of change.new;
  }

  -- whether a place is the one that is changed
  here-or : (part : ℕ) (place : List ℕ) → ((part ≡ change.part.0) × (place ≡ change.place))
      ⊎ (is_image_of part place image ≡ false)
  here-or part place = by_test (is_image_of part place image) refl
    where
      by_test : (b : Bool) → is_image_of part place image ≡ b
          → ((part ≡ change.part.0) × (place ≡ change.place))
          ⊎ (is_image_of part place image ≡ false)
      by_test true is =
          let there = is-there part place image is in inl (sym there.0, there.1)
      by_test false is = inr is

  apart-from : (part : ℕ) (place : List ℕ) → is_image_of part place image ≡ false
      → part ≡ change.part.0 → place ≡ change.place → ⊥
  apart-from part place is same at = true≢false (sym (is-own image)
      ∙ ap (λ (p : ℕ). is_image_of p change.place image) (sym same)
      ∙ ap (λ (q : List ℕ). is_image_of part q image) (sym at) ∙ is)

  -- what a place has of two functions of places is the same where it is at the changed place and
  -- at the others
  by-place : {X : Type 0} (f g : ℕ → List ℕ → X)
      → f change.part.0 change.place ≡ g change.part.0 change.place
      → ((part : ℕ) (place : List ℕ) → is_image_of part place image ≡ false
      → f part place ≡ g part place)
      → (part : ℕ) (place : List ℕ) → f part place ≡ g part place
  by-place f g here further part place = ⊎_elim
      (λ there. ap (λ (p : ℕ). f p place) there.0 ∙ ap (f change.part.0) there.1 ∙ here
      ∙ sym (ap (λ (p : ℕ). g p place) there.0 ∙ ap (g change.part.0) there.1))
      (further part place) (here-or part place)

  module _ (made : IsNextChange change old new) where
    kept-same : (part : ℕ) (place : List ℕ)
        → oldest new.befores part place ≡ oldest old.befores part place
    kept-same part place =
        ap (λ (images : List BeforeImage). oldest images part place) made.befores

    pub logged-next-change : HasLogged log new
    logged-next-change = record {
      alone = logged.alone;
      once = subst AreAlone (sym made.befores) logged.once;
      kept = λ part place found is. logged.kept part place found
          (sym (kept-same part place) ∙ is);
      back = λ part place found is none. logged.back part place found is
          (sym (kept-same part place) ∙ none)
          ∙ sym (ap standing_of (item-else geometry old new change laid of made.contents part place
          (λ same at. made.kept
          (ap (λ (p : ℕ). oldest old.befores p change.place) (sym same)
          ∙ ap (oldest old.befores part) (sym at)
          ∙ sym (kept-same part place) ∙ none))));
      logged = logged.logged ∙ sym made.logged;
      live = λ unit. logged.live unit
          ∙ sym (ap (list_any (λ (l : Logged). same_unit unit l.unit)) made.logged);
      used = logged.used ∙ sym made.used;
      ended = subst (λ (numbers : ℕ → ℕ). All (IsPast numbers) log.records) (sym made.numbers)
          logged.ended;
      current = subst (All (λ (i : BeforeImage). IsCurrent new.numbers i.unit)) (sym made.befores)
          (subst (λ (numbers : ℕ → ℕ). All (λ (i : BeforeImage). IsCurrent numbers i.unit)
          old.befores) (sym made.numbers) logged.current);
    }

    pub laid-next-change : IsLaidState geometry new
    laid-next-change = laid-stays geometry old new change laid of made.contents
        (subst (All (IsKeptIn geometry old)) (sym made.befores) laid.kept)

    pub items-next-change : (part : ℕ) (place : List ℕ)
        → item_at (committed_by new log.records part) place
        ≡ item_at (committed_by old log.records part) place
    items-next-change part place =
        item-now geometry new laid-next-change log logged-next-change part place
        ∙ by-place
        (λ p q. kept_or (oldest new.befores p q) (item_at (new.contents p) q))
        (λ p q. kept_or (oldest old.befores p q) (item_at (old.contents p) q))
        (ap (λ (found : Option BeforeImage). kept_or found
        (item_at (new.contents change.part.0) change.place))
        (kept-same change.part.0 change.place)
        ∙ by_found (oldest old.befores change.part.0 change.place) refl)
        (λ p q apart.
        ap (λ (found : Option BeforeImage). kept_or found (item_at (new.contents p) q))
        (kept-same p q)
        ∙ ap (kept_or (oldest old.befores p q))
        (item-else geometry old new change laid of made.contents p q (apart-from p q apart)))
        part place
        ∙ sym (item-now geometry old laid log logged part place)
      where
        by_found : (found : Option BeforeImage)
            → oldest old.befores change.part.0 change.place ≡ found
            → kept_or found (item_at (new.contents change.part.0) change.place)
            ≡ kept_or found (item_at (old.contents change.part.0) change.place)
        by_found None is = absurd (made.kept is)
        by_found (Some kept) is = refl

  -- ---- a before-image that is put back

  module _ (made : IsPutBack change old new) where
    was-here : oldest old.befores change.part.0 change.place ≡ Some image
    was-here = last-oldest change.unit old.befores image logged.once made.last

    -- something is kept there
    pub put-some : oldest old.befores change.part.0 change.place ≢ None
    put-some none = some-none (sym was-here ∙ none)

    none-here : oldest new.befores change.part.0 change.place ≡ None
    none-here =
        ap (λ (images : List BeforeImage). oldest images change.part.0 change.place) made.befores
        ∙ without-here change.unit old.befores image logged.once made.last

    same-else : (part : ℕ) (place : List ℕ) → is_image_of part place image ≡ false
        → oldest new.befores part place ≡ oldest old.befores part place
    same-else part place apart =
        ap (λ (images : List BeforeImage). oldest images part place) made.befores
        ∙ without-else change.unit old.befores image part place made.last apart

    item-back : item_at (new.contents change.part.0) change.place ≡ change.new
    item-back = item-here geometry old new change laid of made.contents

    -- the log has it
    pub log-here : oldest (images_of log.records) change.part.0 change.place ≡ Some image
    log-here = logged.kept change.part.0 change.place image was-here

    pub logged-put-back : HasLogged log new
    logged-put-back = record {
      alone = logged.alone;
      once = subst AreAlone (sym made.befores) (alone-without change.unit old.befores logged.once);
      kept = λ part place found is. ⊎_elim
          (λ there. absurd (some-none (sym is ∙ ap (λ (p : ℕ). oldest new.befores p place) there.0
          ∙ ap (oldest new.befores change.part.0) there.1 ∙ none-here)))
          (λ apart. logged.kept part place found (sym (same-else part place apart) ∙ is))
          (here-or part place);
      back = λ part place found is none. ⊎_elim
          (λ there.
          let same : Some found ≡ Some image = sym is
          ∙ ap (λ (p : ℕ). oldest (images_of log.records) p place) there.0
          ∙ ap (oldest (images_of log.records) change.part.0) there.1 ∙ log-here in
          let one : found ≡ image = cc in
          ap (λ (i : BeforeImage). i.old) one ∙ ap standing_of (sym item-back
          ∙ sym (ap (λ (p : ℕ). item_at (new.contents p) place) there.0
          ∙ ap (item_at (new.contents change.part.0)) there.1)))
          (λ apart. logged.back part place found is (sym (same-else part place apart) ∙ none)
          ∙ sym (ap standing_of (item-else geometry old new change laid of made.contents part place
          (apart-from part place apart))))
          (here-or part place);
      logged = logged.logged ∙ sym made.logged;
      live = λ unit. logged.live unit
          ∙ sym (ap (list_any (λ (l : Logged). same_unit unit l.unit)) made.logged);
      used = logged.used ∙ sym made.used;
      ended = subst (λ (numbers : ℕ → ℕ). All (IsPast numbers) log.records) (sym made.numbers)
          logged.ended;
      current = subst (All (λ (i : BeforeImage). IsCurrent new.numbers i.unit)) (sym made.befores)
          (all-without change.unit (λ (i : BeforeImage). IsCurrent new.numbers i.unit) old.befores
          (subst (λ (numbers : ℕ → ℕ). All (λ (i : BeforeImage). IsCurrent numbers i.unit)
          old.befores) (sym made.numbers) logged.current));
    }

    pub laid-put-back : IsLaidState geometry new
    laid-put-back = laid-stays geometry old new change laid of made.contents
        (subst (All (IsKeptIn geometry old)) (sym made.befores)
        (all-without change.unit (IsKeptIn geometry old) old.befores laid.kept))

    -- elsewhere each place has what it had,
    else-put-back : (part : ℕ) (place : List ℕ) → is_image_of part place image ≡ false
        → kept_or (oldest new.befores part place) (item_at (new.contents part) place)
        ≡ kept_or (oldest old.befores part place) (item_at (old.contents part) place)
    else-put-back part place apart =
        ap (λ (found : Option BeforeImage). kept_or found (item_at (new.contents part) place))
        (same-else part place apart)
        ∙ ap (kept_or (oldest old.befores part place))
        (item-else geometry old new change laid of made.contents part place
        (apart-from part place apart))

    -- and there the record that it had: an item that was withdrawn is none.
    pub records-put-back : (part : ℕ) (place : List ℕ)
        → standing_of (item_at (committed_by new log.records part) place)
        ≡ standing_of (item_at (committed_by old log.records part) place)
    records-put-back part place =
        ap standing_of (item-now geometry new laid-put-back log logged-put-back part place)
        ∙ by-place
        (λ p q. standing_of (kept_or (oldest new.befores p q) (item_at (new.contents p) q)))
        (λ p q. standing_of (kept_or (oldest old.befores p q) (item_at (old.contents p) q)))
        (ap (λ (found : Option BeforeImage). standing_of (kept_or found
        (item_at (new.contents change.part.0) change.place))) none-here
        ∙ ap standing_of item-back ∙ sym (stands-once change.new)
        ∙ sym (ap (λ (found : Option BeforeImage). standing_of (kept_or found
        (item_at (old.contents change.part.0) change.place))) was-here))
        (λ p q apart. ap standing_of (else-put-back p q apart))
        part place
        ∙ sym (ap standing_of (item-now geometry old laid log logged part place))

    -- So a place of which the log has no before-image has the item that it had.
    pub items-put-back : (part : ℕ) (place : List ℕ)
        → oldest (images_of log.records) part place ≡ None
        → item_at (committed_by new log.records part) place
        ≡ item_at (committed_by old log.records part) place
    items-put-back part place none =
        item-now geometry new laid-put-back log logged-put-back part place
        ∙ ⊎_elim
        (λ there. absurd (some-none (sym log-here
        ∙ ap (λ (p : ℕ). oldest (images_of log.records) p change.place) (sym there.0)
        ∙ ap (oldest (images_of log.records) part) (sym there.1) ∙ none)))
        (else-put-back part place) (here-or part place)
        ∙ sym (item-now geometry old laid log logged part place)
