-- The least place that a search may find among what is kept, with one before-image more.
use Rattle.std.proofs.Common.{◌≡◌, ℕ, Bool, true, false, cond, List, [], ◌∷◌, ◌++◌, Option, Some}
use Rattle.std.proofs.Common.{None, refl, sym, ap, subst, ◌∙◌, ◌==◌}
use Rattle.std.specs.Prelude.{filter, option_map, ◌&&◌, IfSome}
use Rattle.std.specs.List.{cons_option}
use Rattle.std.specs.Option.{option_and_then}
use Rattle.std.specs.Ordering.{ordering_reverse}
use Rattle.std.specs.declared.cmp.Ordering.{Ordering}
use Rattle.std.specs.declared.cmp.Ordering.TheVariants.{Less, Equal, Greater}
use Rattle.std.proofs.lemmas.Cmp.{nat_list_cmp_total}
use Rattle.std.proofs.lemmas.List.{append-nil}
use Rattle.std.proofs.lemmas.List.Elements.{filter_map-append}
use Rattle.vr_types.specs.Content.{Standing, place_cmp, record_of}
use Rattle.vr_types.proofs.CallerLemmas.{same_place}
use Rattle.vr_history.specs.State.{BeforeImage}
use Rattle.vr_space.specs.Room.{Lengths, lengthen_by, with_length}
use Rattle.vr_space.specs.Whence.{allows, first_allowed, first_of, places_kept}
use Rattle.vr_space.specs.declared.whence.Whence.{Whence}
use Rattle.vr_space.proofs.CallerLemmas.{Rise, same_is_equal}
use Rattle.vr_space.proofs.Fewer.{AllPast}
use Rattle.vr_undo.specs.Lengths.{lesser, lesser_by, place_allowed, place_when}
use Rattle.vr_undo.specs.PutBack.{length_of, lengths_kept}
use Rattle.vr_undo.specs.Records.{image_of, images_in, logged_image}
use Rattle.vr_undo.specs.declared.before.Before.{Before}
use Rattle.vr_undo.specs.declared.record.KeptRecord.{KeptRecord}
use Rattle.vr_undo.specs.Ascending.{kept-rise}
use Rattle.vr_undo.proofs.Images.{kept-append, kept_more}

pub lesser-none : (one : Option (List ℕ)) → lesser one None ≡ one
lesser-none None = refl
lesser-none (Some place) = refl

module _ (from : Whence) where
  abbrev least : Lengths → Option (List ℕ)
  least lengths = first_allowed from (places_kept lengths)

  -- the place, where the search may find it
  abbrev may : List ℕ → Option (List ℕ)
  may place = cond (allows from place) (Some place) None

  alone : (place : List ℕ) (test : Bool)
      → first_of (cond test (place ∷ []) []) ≡ lesser None (cond test (Some place) None)
  alone place true = refl
  alone place false = refl

  -- what is found is past a place that all are past
  least-past : (place : List ℕ) (lengths : Lengths) → AllPast place lengths
      → IfSome (least lengths) (λ other. place_cmp place other ≡ Less)
  least-past place [] past = tt
  least-past place (entry ∷ lengths) past =
      by_test (allows from entry.0) (least-past place lengths past.1)
    where
      by_test : (test : Bool) → IfSome (least lengths) (λ other. place_cmp place other ≡ Less)
          → IfSome (first_of (cond test (entry.0 ∷ filter (allows from) (places_kept lengths))
          (filter (allows from) (places_kept lengths)))) (λ other. place_cmp place other ≡ Less)
      by_test true further = past.0
      by_test false further = further

  past-first : (place first : List ℕ) (lengths : Lengths) → place_cmp place first ≡ Less
      → AllPast first lengths → AllPast place lengths
  past-first place first [] less past = tt
  past-first place first (entry ∷ lengths) less past = (
    nat_list_cmp_total.trans place first entry.0 less past.0,
    past-first place first lengths less past.1,
  )

  -- before all
  first-some : (place : List ℕ) (found : Option (List ℕ))
      → IfSome found (λ other. place_cmp place other ≡ Less)
      → Some place ≡ lesser found (Some place)
  first-some place None past = refl
  first-some place (Some other) past =
      sym (ap (λ (o : Ordering). Some (lesser_by o other place))
      (nat_list_cmp_total.antisymm other place ∙ ap ordering_reverse past))

  first-least : (place : List ℕ) (rest : List (List ℕ)) (test : Bool)
      → IfSome (first_of rest) (λ other. place_cmp place other ≡ Less)
      → first_of (cond test (place ∷ rest) rest)
      ≡ lesser (first_of rest) (cond test (Some place) None)
  first-least place rest true past = first-some place (first_of rest) past
  first-least place rest false past = sym (lesser-none (first_of rest))

  -- at a place that there is
  same-least : (place : List ℕ) (rest : List (List ℕ)) (test : Bool)
      → first_of (cond test (place ∷ rest) rest)
      ≡ lesser (first_of (cond test (place ∷ rest) rest)) (cond test (Some place) None)
  same-least place rest true =
      sym (ap (λ (o : Ordering). Some (lesser_by o place place)) (same_is_equal place))
  same-least place rest false = sym (lesser-none (first_of rest))

  -- past the first
  after-some : (first place : List ℕ) (test : Bool) → place_cmp first place ≡ Less
      → Some first ≡ lesser (Some first) (cond test (Some place) None)
  after-some first place true less =
      sym (ap (λ (o : Ordering). Some (lesser_by o first place)) less)
  after-some first place false less = refl

  later-least : (first place : List ℕ) (with rest : List (List ℕ)) (test : Bool)
      → place_cmp first place ≡ Less → first_of with ≡ lesser (first_of rest) (may place)
      → first_of (cond test (first ∷ with) with)
      ≡ lesser (first_of (cond test (first ∷ rest) rest)) (may place)
  later-least first place with rest true less more =
      after-some first place (allows from place) less
  later-least first place with rest false less more = more

  -- The least that may be found, with one length more.
  pub least-with : (lengths : Lengths) (place : List ℕ) (n : ℕ) → Rise lengths
      → least (with_length lengths place n) ≡ lesser (least lengths) (may place)
  least-with [] place n rise = alone place (allows from place)
  least-with (entry ∷ lengths) place n rise =
      by_order (place_cmp place entry.0) refl (least-with lengths place n rise.1)
    where
      by_order : (order : Ordering) → place_cmp place entry.0 ≡ order
          → least (with_length lengths place n) ≡ lesser (least lengths) (may place)
          → least (lengthen_by order place n entry lengths (with_length lengths place n))
          ≡ lesser (least (entry ∷ lengths)) (may place)
      by_order Less is further =
          first-least place (filter (allows from) (places_kept (entry ∷ lengths)))
          (allows from place) (least-past place (entry ∷ lengths)
          (is, past-first place entry.0 lengths is rise.0))
      by_order Equal is further =
          same-least entry.0 (filter (allows from) (places_kept lengths)) (allows from entry.0)
          ∙ ap (λ (p : List ℕ). lesser (least (entry ∷ lengths)) (may p))
          (sym (same_place place entry.0 is))
      by_order Greater is further =
          later-least entry.0 place
          (filter (allows from) (places_kept (with_length lengths place n)))
          (filter (allows from) (places_kept lengths)) (allows from entry.0)
          (nat_list_cmp_total.antisymm entry.0 place ∙ ap ordering_reverse is) further

  -- ---- one before-image more

  module _ (images : List BeforeImage) (part : ℕ) where
    abbrev found : Option (List ℕ)
    found = least (lengths_kept images part)

    more-of : (at : List ℕ) (mine : Bool) (old : Option (List ℕ))
        → least (kept_more (lengths_kept images part)
        (cond mine (length_of at (option_and_then record_of (option_map Standing old))) None))
        ≡ lesser found (place_when (mine && allows from at) at old)
    more-of at false old = sym (lesser-none found)
    more-of at true None = by_test (allows from at)
      where
        by_test : (test : Bool) → found ≡ lesser found (place_when test at None)
        by_test true = sym (lesser-none found)
        by_test false = sym (lesser-none found)
    more-of at true (Some bytes) =
        least-with (lengths_kept images part) at (Rattle.std.proofs.Common.length bytes)
        (kept-rise images part) ∙ by_test (allows from at)
      where
        by_test : (test : Bool) → lesser found (cond test (Some at) None)
            ≡ lesser found (place_when test at (Some bytes))
        by_test true = refl
        by_test false = refl

pub least-more : (from : Whence) (records : List KeptRecord) (kept : KeptRecord) (part : ℕ)
    → first_allowed from (places_kept (lengths_kept (images_in (records ++ kept ∷ [])) part))
    ≡ lesser (first_allowed from (places_kept (lengths_kept (images_in records) part)))
    (place_allowed part from kept.logged)
least-more from records kept part =
    ap (λ (images : List BeforeImage). first_allowed from (places_kept (lengths_kept images part)))
    (filter_map-append logged_image records (kept ∷ [])) ∙ by_logged kept.logged
  where
    by_logged : (logged : Option Before)
        → first_allowed from (places_kept (lengths_kept (images_in records
        ++ cons_option (option_map (image_of kept.unit) logged) []) part))
        ≡ lesser (first_allowed from (places_kept (lengths_kept (images_in records) part)))
        (place_allowed part from logged)
    by_logged None =
        ap (λ (images : List BeforeImage). first_allowed from
        (places_kept (lengths_kept images part))) (append-nil (images_in records))
        ∙ sym (lesser-none (first_allowed from
        (places_kept (lengths_kept (images_in records) part))))
    by_logged (Some before) =
        ap (λ (lengths : Lengths). first_allowed from (places_kept lengths))
        (kept-append (images_in records) (image_of kept.unit before) part)
        ∙ more-of from (images_in records) part before.place (before.part.0 == part) before.old
