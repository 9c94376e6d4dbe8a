-- The least place that other units keep, with one record more.
use Rattle.std.proofs.Common.{◌≡◌, ℕ, Bool, true, false, cond, List, [], ◌∷◌, ◌++◌, Option, Some}
use Rattle.std.proofs.Common.{None, refl, sym, ap, subst, ◌∙◌, ◌==◌, ◌⊎◌, inl, inr, arith}
use Rattle.std.specs.Prelude.{filter, not, option_map, ◌&&◌, ◌||◌, bytes_eq, MatchOption}
use Rattle.std.specs.Prelude.{if◌then◌else◌}
use Rattle.std.specs.List.{Contains, cons_option, filter_map, list_any}
use Rattle.std.specs.Ordering.{is_lt, ordering_reverse}
use Rattle.std.specs.declared.cmp.Ordering.{Ordering}
use Rattle.std.specs.declared.cmp.Ordering.TheVariants.{Less, Equal, Greater}
use Rattle.std.proofs.lemmas.Cmp.{nat_list_cmp_total}
use Rattle.std.proofs.lemmas.List.{append-nil}
use Rattle.std.proofs.lemmas.List.Folds.{list_any_at}
use Rattle.std.proofs.lemmas.Slice.Eq.{bytes_eq-Decides}
use Rattle.std.proofs.lemmas.List.Elements.{Contains-append_left, Contains-append_right}
use Rattle.std.proofs.lemmas.List.Elements.{Contains-push}
use Rattle.std.proofs.lemmas.List.Elements.{Contains-push_cases, filter-append, filter_map-append}
use Rattle.vr_types.specs.Content.{Standing, place_cmp}
use Rattle.vr_types.specs.Locks.{same_unit}
use Rattle.vr_types.specs.declared.unit.Unit.{Unit as UnitOfRecovery}
use Rattle.vr_history.specs.Found.{Standing_at, kept_by_others, standing_at}
use Rattle.vr_history.specs.State.{BeforeImage}
use Rattle.vr_space.specs.Whence.{allows}
use Rattle.vr_space.specs.declared.whence.Whence.{Whence}
use Rattle.vr_space.proofs.CallerLemmas.{same_is_equal}
use Rattle.vr_undo.specs.Lengths.{lesser, lesser_by, place_allowed, place_when}
use Rattle.vr_undo.specs.Others.{IsLeastAllowed, NoneAllowed, StandsAt, others_in, place_other}
use Rattle.vr_undo.specs.Records.{befores_of, image_of, kept_image}
use Rattle.vr_undo.specs.declared.before.Before.{Before}
use Rattle.vr_undo.specs.declared.record.KeptRecord.{KeptRecord}
use Rattle.vr_undo.proofs.Least.{lesser-none}

not-both : {A : Type 0} (b : Bool) → b ≡ false → b ≡ true → A
not-both b is_not is = absurd (cc)

module _ (from : Whence) where
  -- the least place that the search may find
  abbrev pub IsNext : List Standing_at → Option (List ℕ) → Type 0
  IsNext standing found = MatchOption found (NoneAllowed from standing)
      (IsLeastAllowed from standing)

  -- a search that finds none, and then a record more
  stands-more : (standing : List Standing_at) (place bytes other : List ℕ)
      → StandsAt (standing ++ (place, bytes) ∷ []) other
      → StandsAt standing other ⊎ (place ≡ other)
  stands-more standing place bytes other stands =
      by_cases (Contains-push_cases standing (place, bytes) (other, stands.0) stands.1)
    where
      new-at : Standing_at
      new-at = (place, bytes)

      other-at : Standing_at
      other-at = (other, stands.0)

      by_cases : Contains standing other-at ⊎ (new-at ≡ other-at)
          → StandsAt standing other ⊎ (place ≡ other)
      by_cases (inl before) = inl (stands.0, before)
      by_cases (inr new) = inr (ap (λ (one : Standing_at). one.0) new)

  stands-still : (standing : List Standing_at) (one : Standing_at) (other : List ℕ)
      → StandsAt standing other → StandsAt (standing ++ one ∷ []) other
  stands-still standing one other stands =
      (stands.0, Contains-append_left standing (one ∷ []) (other, stands.0) stands.1)

  -- a place that is no lesser than itself
  not-less : (place other : List ℕ) → place ≡ other → is_lt (place_cmp other place) ≡ false
  not-less place other same =
      subst (λ (at : List ℕ). is_lt (place_cmp at place) ≡ false) same
      (ap is_lt (same_is_equal place))

  -- what is no lesser than a place is no lesser than one below that
  below-more : (first place other : List ℕ) (order : Ordering) → place_cmp first place ≡ Greater
      → is_lt (place_cmp other first) ≡ false → place_cmp other place ≡ order
      → is_lt order ≡ false
  below-more first place other Less below least is =
      not-both (is_lt (place_cmp other first)) least (ap is_lt
      (nat_list_cmp_total.trans other place first is
      (nat_list_cmp_total.antisymm place first ∙ ap ordering_reverse below)))
  below-more first place other Equal below least is = refl
  below-more first place other Greater below least is = refl

  module _ (standing : List Standing_at) (place bytes : List ℕ) where
    abbrev more : List Standing_at
    more = standing ++ (place, bytes) ∷ []

    none-more : NoneAllowed from standing → allows from place ≡ false → NoneAllowed from more
    none-more none not_here other stands =
        by_cases (stands-more standing place bytes other stands)
      where
        by_cases : StandsAt standing other ⊎ (place ≡ other) → allows from other ≡ false
        by_cases (inl before) = none other before
        by_cases (inr new) =
            subst (λ (at : List ℕ). allows from at ≡ false) new not_here

    -- the first that the search may find
    first-found : NoneAllowed from standing → allows from place ≡ true
        → IsLeastAllowed from more place
    first-found none here = record {
      allowed = here;
      stands = (bytes, Contains-push standing (place, bytes));
      least =
          λ other stands allowed.
          by_cases other allowed (stands-more standing place bytes other stands);
    }
      where
        by_cases : (other : List ℕ) → allows from other ≡ true
            → StandsAt standing other ⊎ (place ≡ other)
            → is_lt (place_cmp other place) ≡ false
        by_cases other allowed (inl before) =
            not-both (allows from other) (none other before) allowed
        by_cases other allowed (inr new) = not-less place other new

    module _ (first : List ℕ) (found : IsLeastAllowed from standing first) where
      -- the new place is one that the search doesn't find, or no lesser one
      keeps-first : (allows from place ≡ true → is_lt (place_cmp place first) ≡ false)
          → IsLeastAllowed from more first
      keeps-first above = record {
        allowed = found.allowed;
        stands = stands-still standing (place, bytes) first found.stands;
        least =
            λ other stands allowed.
            by_cases other allowed (stands-more standing place bytes other stands);
      }
        where
          by_cases : (other : List ℕ) → allows from other ≡ true
              → StandsAt standing other ⊎ (place ≡ other)
              → is_lt (place_cmp other first) ≡ false
          by_cases other allowed (inl before) = found.least other before allowed
          by_cases other allowed (inr new) =
              subst (λ (at : List ℕ). is_lt (place_cmp at first) ≡ false) new
              (above (subst (λ (at : List ℕ). allows from at ≡ true) (sym new) allowed))

      -- the new place is the lesser one
      takes-new : allows from place ≡ true → place_cmp first place ≡ Greater
          → IsLeastAllowed from more place
      takes-new here below = record {
        allowed = here;
        stands = (bytes, Contains-push standing (place, bytes));
        least =
            λ other stands allowed.
            by_cases other allowed (stands-more standing place bytes other stands);
      }
        where
          by_cases : (other : List ℕ) → allows from other ≡ true
              → StandsAt standing other ⊎ (place ≡ other)
              → is_lt (place_cmp other place) ≡ false
          by_cases other allowed (inl before) =
              below-more first place other (place_cmp other place) below
              (found.least other before allowed) refl
          by_cases other allowed (inr new) = not-less place other new

      by-order : (order : Ordering) → place_cmp first place ≡ order → allows from place ≡ true
          → IsLeastAllowed from more (lesser_by order first place)
      by-order Less is here =
          keeps-first (λ allowed.
          ap is_lt (nat_list_cmp_total.antisymm place first ∙ ap ordering_reverse is))
      by-order Equal is here =
          keeps-first (λ allowed.
          ap is_lt (nat_list_cmp_total.antisymm place first ∙ ap ordering_reverse is))
      by-order Greater is here = takes-new here is

    next-more : (found : Option (List ℕ)) (test : Bool) → allows from place ≡ test
        → IsNext standing found
        → IsNext more (lesser found (place_when test place (Some bytes)))
    next-more None true here none = first-found none here
    next-more None false not_here none = none-more none not_here
    next-more (Some first) true here found =
        by-order first found (place_cmp first place) refl here
    next-more (Some first) false not_here found =
        keeps-first first found (λ allowed. not-both (allows from place) not_here allowed)

  next-same : (standing : List Standing_at) (found : Option (List ℕ)) → IsNext standing found
      → IsNext (standing ++ []) (lesser found None)
  next-same standing found next =
      subst (λ (l : List Standing_at). IsNext l (lesser found None)) (sym (append-nil standing))
      (subst (IsNext standing) (sym (lesser-none found)) next)

  -- ---- one record that is kept

  module _ (unit : UnitOfRecovery) (part : ℕ) where
    abbrev of_image : Option BeforeImage → List Standing_at
    of_image image = kept_by_others unit part (cons_option image [])

    abbrev is_other_of : BeforeImage → Bool
    is_other_of image = not (same_unit unit image.unit) && image.part == part

    others-append : (records : List KeptRecord) (kept : KeptRecord)
        → others_in unit part (records ++ kept ∷ [])
        ≡ others_in unit part records ++ of_image (kept_image kept)
    others-append records kept =
        ap (kept_by_others unit part) (filter_map-append kept_image records (kept ∷ []))
        ∙ ap (filter_map (λ (image : BeforeImage). standing_at image.place image.old))
        (filter-append is_other_of (befores_of records) (cons_option (kept_image kept) []))
        ∙ filter_map-append (λ (image : BeforeImage). standing_at image.place image.old)
        (filter is_other_of (befores_of records))
        (filter is_other_of (cons_option (kept_image kept) []))

    module _ (standing : List Standing_at) (found : Option (List ℕ))
        (next : IsNext standing found) where
      -- by whether it is of another unit, and of the part, and by what stood there
      by_before : (mine of_part : Bool) (by : UnitOfRecovery) (number : ℕ) (place : List ℕ)
          (old : Option (List ℕ))
          → IsNext (standing ++ filter_map (λ (image : BeforeImage).
          standing_at image.place image.old) (cond (not mine && of_part)
          (record {
            unit = by;
            part = number;
            place = place;
            old = option_map Standing old;
          } ∷ []) []))
          (lesser found (if mine then None
          else place_when (of_part && allows from place) place old))
      by_before true of_part by number place old = next-same standing found next
      by_before false false by number place old = next-same standing found next
      by_before false true by number place None = by_test (allows from place)
        where
          by_test : (test : Bool)
              → IsNext (standing ++ []) (lesser found (place_when test place None))
          by_test true = next-same standing found next
          by_test false = next-same standing found next
      by_before false true by number place (Some bytes) =
          next-more standing place bytes found (allows from place) refl next

pub next-other : (from : Whence) (unit : UnitOfRecovery) (part : ℕ) (records : List KeptRecord)
    (kept : KeptRecord) (found : Option (List ℕ))
    → IsNext from (others_in unit part records) found
    → IsNext from (others_in unit part (records ++ kept ∷ []))
    (lesser found (place_other unit part from kept))
next-other from unit part records kept found next =
    subst (λ (l : List Standing_at). IsNext from l (lesser found
    (place_other unit part from kept))) (sym (others-append from unit part records kept))
    (by_kept kept.kept)
  where
    by_kept : (before : Option Before)
        → IsNext from (others_in unit part records
        ++ of_image from unit part (option_map (image_of kept.unit) before))
        (lesser found (if same_unit unit kept.unit then None
        else place_allowed part from before))
    by_kept None = by_test (same_unit unit kept.unit)
      where
        by_test : (test : Bool) → IsNext from (others_in unit part records ++ [])
            (lesser found (if test then None else None))
        by_test true = next-same from (others_in unit part records) found next
        by_test false = next-same from (others_in unit part records) found next
    by_kept (Some before) =
        by_before from unit part (others_in unit part records) found next
        (same_unit unit kept.unit) (before.part.0 == part) kept.unit before.part.0 before.place
        before.old

-- a record is listed at a place exactly where a test of the list finds it there
listed-same : (place : List ℕ) → bytes_eq place place ≡ true
listed-same place = (bytes_eq-Decides place place).1 refl

pub stands-any : (standing : List Standing_at) (place : List ℕ) → StandsAt standing place
    → list_any (λ (one : Standing_at). bytes_eq place one.0) standing ≡ true
stands-any standing place stands =
    let index = stands.1.0 in
    let one : Standing_at = (place, stands.0) in
    list_any_at (λ (other : Standing_at). bytes_eq place other.0) standing index one stands.1.1
    (ap (λ (other : Standing_at). bytes_eq place other.0) stands.1.2 ∙ listed-same place)

pub any-stands : (standing : List Standing_at) (place : List ℕ)
    → list_any (λ (one : Standing_at). bytes_eq place one.0) standing ≡ true
    → StandsAt standing place
any-stands [] place none = absurd (cc)
any-stands (one ∷ standing) place any =
    by_test (any-stands standing place) (bytes_eq place one.0) refl any
  where
    by_test : (list_any (λ (other : Standing_at). bytes_eq place other.0) standing ≡ true
        → StandsAt standing place)
        → (test : Bool) → bytes_eq place one.0 ≡ test
        → (test || list_any (λ (other : Standing_at). bytes_eq place other.0) standing) ≡ true
        → StandsAt (one ∷ standing) place
    by_test further true here found =
        subst (StandsAt (one ∷ standing)) (sym ((bytes_eq-Decides place one.0).0 here))
        (one.1, Contains-append_left (one ∷ []) standing one (0, omega arith, refl))
    by_test further false not_here found =
        let later = further found in
        (later.0, Contains-append_right (one ∷ []) standing (place, later.0) later.1)
