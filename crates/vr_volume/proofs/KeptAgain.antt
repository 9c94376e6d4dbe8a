-- What a change leaves of a place whose before-image was put back: the log has again what the state
-- logged, and what is committed is what was.
use Rattle.std.proofs.Common.{◌≡◌, ◌≢◌, ◌⊎◌, inl, inr, ⊎_elim, ℕ, Bool, true, false, cond, List, []}
use Rattle.std.proofs.Common.{◌∷◌, ◌++◌, Option, Some, None, refl, sym, ap, subst, ◌∙◌}
use Rattle.std.specs.Prelude.{All}
use Rattle.std.specs.List.{list_any}
use Rattle.std.specs.Option.{option_or}
use Rattle.std.proofs.lemmas.Bool.{true≢false}
use Rattle.std.proofs.lemmas.List.Elements.{All-append, All-cons, All-nil}
use Rattle.vr_types.specs.Content.{Item, item_at}
use Rattle.vr_types.specs.Locks.{same_unit}
use Rattle.vr_types.specs.Seen.{Seen}
use Rattle.vr_types.specs.declared.geometry.Geometry.{Geometry}
use Rattle.vr_types.specs.declared.unit.PartNo.{PartNo}
use Rattle.vr_types.specs.declared.unit.Unit.{Unit as UnitOfRecovery}
use Rattle.vr_space.specs.Owners.{Owners}
use Rattle.vr_log.specs.Content.{Content as LogContent}
use Rattle.vr_log.specs.LogNow.{IsLogOf, LogNow}
use Rattle.vr_log.specs.Standing.{LogStands}
use Rattle.vr_history.specs.Committed.{kept_or}
use Rattle.vr_history.specs.State.{BeforeImage, Logged, State}
use Rattle.vr_space.specs.Part.{Shape, part_no}
use Rattle.vr_undo.proofs.CallerLemmas.{record-stands}
use Rattle.vr_volume.specs.Committed.{HasLogged, IsCurrent, IsKeptIn, IsLaidState, IsPast}
use Rattle.vr_volume.specs.Committed.{committed_by}
use Rattle.vr_volume.specs.PutBack.{AreAlone, images_of, is_image_of, oldest, standing_of}
use Rattle.vr_volume.specs.Rests.{IsGivenFor, IsVolumeAtRest}
use Rattle.vr_volume.specs.Safe.{IsSafe}
use Rattle.vr_volume.specs.Steps.{Changing, IsChangeOf, IsKeptAgain, image_by}
use Rattle.vr_volume.proofs.Alone.{alone-append, is-own, is-there}
use Rattle.vr_volume.proofs.Committing.{item-now}
use Rattle.vr_volume.proofs.Images.{oldest-append}
use Rattle.vr_volume.proofs.Moving.{catalog-stays, item-else, laid-stays}
use Rattle.vr_volume.proofs.Rested.{all-records}
use Rattle.vr_volume.proofs.Resting.{AreAlikeIn, alike-same, safe-alike}

some-none : {X : Type 0} {x : X} → Some x ≡ None → ⊥
some-none same = cc

-- what is found at a place is of it
found-there : (images : List BeforeImage) (part : ℕ) (place : List ℕ) (image : BeforeImage)
    → oldest images part place ≡ Some image → (image.part ≡ part) × (place ≡ image.place)
found-there [] part place image is = absurd (some-none (sym is))
found-there (first ∷ images) part place image is =
    by_first (is_image_of part place first) refl is (found-there images part place image)
  where
    by_first : (here : Bool) → is_image_of part place first ≡ here
        → cond here (Some first) (oldest images part place) ≡ Some image
        → (oldest images part place ≡ Some image → (image.part ≡ part) × (place ≡ image.place))
        → (image.part ≡ part) × (place ≡ image.place)
    by_first true here same further =
        let it : first ≡ image = cc in
        subst (λ (i : BeforeImage). (i.part ≡ part) × (place ≡ i.place)) it
        (is-there part place first here)
    by_first false here same further = further same

module _ (geometry : Geometry) (log : LogNow) (old new : State) (change : Changing)
    (laid : IsLaidState geometry old) (logged : HasLogged log old)
    (of : IsChangeOf geometry old change) (made : IsKeptAgain log change old new) where
  abbrev image : BeforeImage
  image = image_by change

  -- The log's is the one that is kept again: what was put back stands there.
  image-same : made.image ≡ image
  image-same =
      let there = found-there (images_of log.records) change.part.0 change.place made.image
      made.image_is in
      let item = logged.back change.part.0 change.place made.image made.image_is made.none
      ∙ ap standing_of (sym made.item) ∙ record-stands change.old in
      same made.image made.own there.0 (sym there.1) item
    where
      same : (one : BeforeImage) → one.unit ≡ image.unit → one.part ≡ image.part
          → one.place ≡ image.place → one.old ≡ image.old → one ≡ image
      same one unit part place item =
          ap (λ (u : UnitOfRecovery). record one { unit = u }) unit
          ∙ ap (λ (p : ℕ). record one { unit = image.unit; part = p }) part
          ∙ ap (λ (q : List ℕ). record one { unit = image.unit; part = image.part; place = q }) place
          ∙ ap (λ (i : Option Item). record image { old = i }) item

  log-here : oldest (images_of log.records) change.part.0 change.place ≡ Some image
  log-here = made.image_is ∙ ap Some image-same

  here-or : (part : ℕ) (place : List ℕ) → ((part ≡ change.part.0) × (place ≡ change.place))
      ⊎ (is_image_of part place image ≡ false)
  here-or part place = by_test (is_image_of part place image) refl
    where
      by_test : (b : Bool) → is_image_of part place image ≡ b
          → ((part ≡ change.part.0) × (place ≡ change.place))
          ⊎ (is_image_of part place image ≡ false)
      by_test true is =
          let there = is-there part place image is in inl (sym there.0, there.1)
      by_test false is = inr is

  apart-from : (part : ℕ) (place : List ℕ) → is_image_of part place image ≡ false
      → part ≡ change.part.0 → place ≡ change.place → ⊥
  apart-from part place is same at = true≢false (sym (is-own image)
      ∙ ap (λ (p : ℕ). is_image_of p change.place image) (sym same)
      ∙ ap (λ (q : List ℕ). is_image_of part q image) (sym at) ∙ is)

  kept-now : (part : ℕ) (place : List ℕ) → oldest new.befores part place
      ≡ option_or (oldest old.befores part place)
      (cond (is_image_of part place image) (Some image) None)
  kept-now part place = ap (λ (images : List BeforeImage). oldest images part place) made.befores
      ∙ oldest-append old.befores image part place

  kept-here : oldest new.befores change.part.0 change.place ≡ Some image
  kept-here = kept-now change.part.0 change.place
      ∙ ap (λ (found : Option BeforeImage). option_or found
      (cond (is_image_of change.part.0 change.place image) (Some image) None)) made.none
      ∙ ap (λ (b : Bool). option_or None (cond b (Some image) None)) (is-own image)

  else-place : (found : Option BeforeImage) (b : Bool) → b ≡ false
      → option_or found (cond b (Some image) None) ≡ found
  else-place None b is = ap (λ (c : Bool). option_or None (cond c (Some image) None)) is
  else-place (Some other) b is = refl

  kept-else : (part : ℕ) (place : List ℕ) → is_image_of part place image ≡ false
      → oldest new.befores part place ≡ oldest old.befores part place
  kept-else part place is = kept-now part place
      ∙ else-place (oldest old.befores part place) (is_image_of part place image) is

  pub logged-kept-again : HasLogged log new
  logged-kept-again = record {
    alone = logged.alone;
    once = subst AreAlone (sym made.befores)
        (alone-append old.befores image logged.once made.none);
    kept = λ part place found is. ⊎_elim
        (λ there.
        let at : oldest new.befores part place ≡ Some image =
        ap (λ (p : ℕ). oldest new.befores p place) there.0
        ∙ ap (oldest new.befores change.part.0) there.1 ∙ kept-here in
        ap (λ (p : ℕ). oldest (images_of log.records) p place) there.0
        ∙ ap (oldest (images_of log.records) change.part.0) there.1 ∙ log-here
        ∙ sym at ∙ is)
        (λ apart. logged.kept part place found (sym (kept-else part place apart) ∙ is))
        (here-or part place);
    back = λ part place found is none. ⊎_elim
        (λ there. absurd (some-none (sym kept-here
        ∙ ap (λ (p : ℕ). oldest new.befores p change.place) (sym there.0)
        ∙ ap (oldest new.befores part) (sym there.1) ∙ none)))
        (λ apart. logged.back part place found is (sym (kept-else part place apart) ∙ none)
        ∙ sym (ap standing_of (item-else geometry old new change laid of made.contents part place
        (apart-from part place apart))))
        (here-or part place);
    logged = logged.logged ∙ sym made.logged;
    live = λ unit. logged.live unit
        ∙ sym (ap (list_any (λ (l : Logged). same_unit unit l.unit)) made.logged);
    used = logged.used ∙ sym made.used;
    ended = subst (λ (numbers : ℕ → ℕ). All (IsPast numbers) log.records) (sym made.numbers)
        logged.ended;
    current = subst (All (λ (i : BeforeImage). IsCurrent new.numbers i.unit)) (sym made.befores)
        (subst (λ (numbers : ℕ → ℕ). All (λ (i : BeforeImage). IsCurrent numbers i.unit)
        (old.befores ++ image ∷ [])) (sym made.numbers)
        (All-append (λ (i : BeforeImage). IsCurrent old.numbers i.unit) old.befores (image ∷ [])
        logged.current (All-cons (λ (i : BeforeImage). IsCurrent old.numbers i.unit) image []
        of.current (All-nil (λ (i : BeforeImage). IsCurrent old.numbers i.unit)))));
  }

  pub laid-kept-again : IsLaidState geometry new
  laid-kept-again = laid-stays geometry old new change laid of made.contents
      (subst (All (IsKeptIn geometry old)) (sym made.befores)
      (All-append (IsKeptIn geometry old) old.befores (image ∷ []) laid.kept
      (All-cons (IsKeptIn geometry old) image []
      (record {
        not_catalog = of.not_catalog;
        shape = of.shape;
        laid = of.laid;
        place = of.place;
      }) (All-nil (IsKeptIn geometry old)))))

  pub items-kept-again : (part : ℕ) (place : List ℕ)
      → item_at (committed_by new log.records part) place
      ≡ item_at (committed_by old log.records part) place
  items-kept-again part place =
      item-now geometry new laid-kept-again log logged-kept-again part place
      ∙ ⊎_elim
      (λ there.
      ap (λ (p : ℕ). kept_or (oldest new.befores p place) (item_at (new.contents p) place)) there.0
      ∙ ap (λ (q : List ℕ). kept_or (oldest new.befores change.part.0 q)
      (item_at (new.contents change.part.0) q)) there.1
      ∙ ap (λ (found : Option BeforeImage). kept_or found
      (item_at (new.contents change.part.0) change.place)) kept-here
      ∙ made.item
      ∙ sym (item-now geometry old laid log logged change.part.0 change.place
      ∙ ap (λ (found : Option BeforeImage). kept_or found
      (item_at (old.contents change.part.0) change.place)) made.none)
      ∙ sym (ap (λ (p : ℕ). item_at (committed_by old log.records p) place) there.0
      ∙ ap (item_at (committed_by old log.records change.part.0)) there.1))
      (λ apart.
      ap (λ (found : Option BeforeImage). kept_or found (item_at (new.contents part) place))
      (kept-else part place apart)
      ∙ ap (kept_or (oldest old.befores part place))
      (item-else geometry old new change laid of made.contents part place
      (apart-from part place apart))
      ∙ sym (item-now geometry old laid log logged part place))
      (here-or part place)

  -- The volume stays safe, by the new state.
  safe-kept-again : (number : ℕ) (owners : Owners) (now : Seen)
      → ((content : LogContent) → IsLogOf log content → content.records ≡ log.records)
      → IsSafe geometry number owners log (committed_by old) now
      → IsSafe geometry number owners log (committed_by new) now
  safe-kept-again number owners now all safe =
      safe-alike geometry number owners log (committed_by old) (committed_by new) now safe
      (λ content is. subst (AreAlikeIn geometry old new) (sym (all content is))
      (alike-same geometry old new laid laid-kept-again
      (catalog-stays geometry old new change laid of made.contents) log.records items-kept-again))

module _ (geometry : Geometry) (number : ℕ) (owners : Owners) (log : LogNow)
    (images : List BeforeImage) (old : State) (a : Seen)
    (rest : IsVolumeAtRest geometry number owners log images old a)
    (new : State) (change : Changing) (made : IsKeptAgain log change old new) where
  image-there : oldest images change.part.0 change.place ≢ None
  image-there none = some-none (sym made.image_is
      ∙ ap (λ (f : List BeforeImage). oldest f change.part.0 change.place) (sym rest.kept) ∙ none)

  -- The place that a call was given has an image.
  pub place-again : (shape : Shape) (place : List ℕ) (found : Option (List ℕ))
      → IsGivenFor old change shape place found → oldest images (part_no shape).0 place ≢ None
  place-again shape place found given none = image-there
      (ap (λ (p : ℕ). oldest images p change.place) (sym (ap (λ (p : PartNo). p.0) given.part))
      ∙ ap (oldest images (part_no shape).0) (sym given.place_is) ∙ none)

  -- The volume is at rest by the state after it.
  pub volume-kept-again : (d : Seen) → IsChangeOf geometry old change → LogStands log d
      → IsSafe geometry number owners log (committed_by old) d
      → IsVolumeAtRest geometry number owners log images new d
  volume-kept-again d of stands safe = record {
    safe = safe-kept-again geometry log old new change rest.laid rest.logged of made number owners d
        (all-records geometry number owners log images old a rest change.part.0 change.place
        image-there) safe;
    stands = stands;
    sound = rest.sound;
    forced = rest.forced;
    laid = laid-kept-again geometry log old new change rest.laid rest.logged of made;
    logged = logged-kept-again geometry log old new change rest.laid rest.logged of made;
    kept = rest.kept;
  }
