-- The least place of before-images that a search may find is the first in the order of places.
use Rattle.std.proofs.Common.{◌≡◌, ℕ, ◌<◌, ◌≤◌, Bool, true, false, ◌&&◌, ◌||◌}
use Rattle.std.proofs.Common.{List, [], ◌∷◌, length, get_or, take, Option, Some, None}
use Rattle.std.proofs.Common.{refl, sym, ap, subst, ◌∙◌, ◌⊎◌, inl, inr, arith, ◌==◌, eqb-true}
use Rattle.std.specs.Prelude.{is_some}
use Rattle.std.specs.Prelude.{if◌then◌else◌}
use Rattle.std.specs.Cmp.{both_ways}
use Rattle.std.specs.List.{Contains, list_any}
use Rattle.std.specs.Ordering.{is_le, is_lt, ordering_reverse}
use Rattle.std.specs.declared.cmp.Ordering.{Ordering}
use Rattle.std.specs.declared.cmp.Ordering.TheVariants.{Less, Equal, Greater}
use Rattle.std.proofs.lemmas.Bool.{cases_lt, true≢false, false≢true}
use Rattle.std.proofs.lemmas.Cmp.{nat_list_cmp_total}
use Rattle.std.proofs.lemmas.List.{get_or-take, get_or_default}
use Rattle.std.proofs.lemmas.List.{length-take}
use Rattle.std.proofs.lemmas.List.Folds.{Any-from_list_any, list_any_at}
use Rattle.std.proofs.lemmas.List.Sorted.{ranks_by, sorted_far}
use Rattle.vr_types.specs.Content.{place_cmp}
use Rattle.vr_types.specs.Locks.{same_unit}
use Rattle.vr_types.proofs.CallerLemmas.{same_place}
use Rattle.vr_types.specs.declared.unit.Unit.{Unit as UnitOfRecovery}
use Rattle.vr_space.specs.Whence.{allows, first_allowed, places_kept}
use Rattle.vr_space.specs.declared.whence.Whence.{Whence}
use Rattle.vr_space.proofs.CallerLemmas.{same_is_equal}
use Rattle.vr_undo.specs.Found.{no_record}
use Rattle.vr_undo.specs.Lengths.{lesser, lesser_by}
use Rattle.vr_undo.specs.Lengths.{place_allowed, place_when}
use Rattle.vr_undo.specs.Order.{AreAlike, AreNumbers, IsAlike, IsInOrder, IsOrder}
use Rattle.vr_undo.specs.Order.{key_at, key_of, shelf_of}
use Rattle.vr_undo.specs.Others.{others_in, place_other}
use Rattle.vr_undo.specs.PutBack.{lengths_kept}
use Rattle.vr_undo.specs.Records.{images_in}
use Rattle.vr_undo.specs.Searched.{IsLeastBy, image_by}
use Rattle.vr_undo.specs.Searched.{place_by, reaches, record_at}
use Rattle.vr_undo.specs.declared.before.Before.{Before}
use Rattle.vr_undo.specs.declared.kept.Whose.{Whose}
use Rattle.vr_undo.specs.declared.kept.Whose.TheVariants.{Log, Others}
use Rattle.vr_undo.specs.declared.record.KeptRecord.{KeptRecord}
use Rattle.vr_undo.specs.declared.record.Which.{Which}
use Rattle.vr_undo.specs.declared.record.Which.TheVariants.{Logged, Kept}
use Rattle.vr_undo.proofs.Least.{least-more}
use Rattle.vr_undo.proofs.NextOther.{IsNext, next-other}
use Rattle.vr_undo.proofs.Ordered.{same-head}
use Rattle.vr_undo.proofs.Finding.{IsKeyed, and-both, any-numbers, any-push, by-end, clash}
use Rattle.vr_undo.proofs.Finding.{either-first, either-last, key-of-image, not-true, or-nothing}

le-le : (p q most : List ℕ) → is_le (place_cmp p q) ≡ true → is_le (place_cmp q most) ≡ true
    → is_le (place_cmp p most) ≡ true
le-le p q most first second =
    by_order (place_cmp p q) (place_cmp q most) refl refl first second
  where
    by_order : (o r : Ordering) → place_cmp p q ≡ o → place_cmp q most ≡ r → is_le o ≡ true
        → is_le r ≡ true → is_le (place_cmp p most) ≡ true
    by_order Less Less is next first second =
        ap is_le (nat_list_cmp_total.trans p q most is next)
    by_order Less Equal is next first second =
        subst (λ z. is_le (place_cmp p z) ≡ true) (same_place q most next) (ap is_le is)
    by_order Less Greater is next first second = absurd (false≢true second)
    by_order Equal r is next first second =
        subst (λ z. is_le (place_cmp z most) ≡ true) (sym (same_place p q is))
        (ap is_le next ∙ second)
    by_order Greater r is next first second = absurd (false≢true first)

le-self : (p : List ℕ) → is_le (place_cmp p p) ≡ true
le-self p = ap is_le (same_is_equal p)

le-back : (p q : List ℕ) → is_lt (place_cmp q p) ≡ false → is_le (place_cmp p q) ≡ true
le-back p q is = ap is_le (nat_list_cmp_total.antisymm p q) ∙ by_order (place_cmp q p) is
  where
    by_order : (o : Ordering) → is_lt o ≡ false → is_le (ordering_reverse o) ≡ true
    by_order Less is = absurd (true≢false is)
    by_order Equal is = refl
    by_order Greater is = refl

same-found : (one other : Option (List ℕ))
    → ((most : List ℕ) → reaches most one ≡ reaches most other) → one ≡ other
same-found None None same = refl
same-found None (Some q) same = absurd (false≢true (same q ∙ le-self q))
same-found (Some p) None same = absurd (true≢false (sym (le-self p) ∙ same p))
same-found (Some p) (Some q) same =
    by_order (place_cmp p q) refl (same q ∙ le-self q) (sym (same p) ∙ le-self p)
  where
    by_order : (o : Ordering) → place_cmp p q ≡ o → is_le (place_cmp p q) ≡ true
        → is_le (place_cmp q p) ≡ true → Some p ≡ Some q
    by_order Less is first second =
        absurd (false≢true (sym (ap is_le (nat_list_cmp_total.antisymm q p
        ∙ ap ordering_reverse is)) ∙ second))
    by_order Equal is first second = ap Some (same_place p q is)
    by_order Greater is first second = absurd (false≢true (sym (ap is_le is) ∙ first))

reaches-lesser : (most : List ℕ) (one other : Option (List ℕ))
    → reaches most (lesser one other) ≡ (reaches most one || reaches most other)
reaches-lesser most None other = refl
reaches-lesser most (Some p) None = or-nothing (is_le (place_cmp p most))
reaches-lesser most (Some p) (Some q) = by_order (place_cmp p q) refl
  where
    by_order : (o : Ordering) → place_cmp p q ≡ o
        → is_le (place_cmp (lesser_by o p q) most)
        ≡ (is_le (place_cmp p most) || is_le (place_cmp q most))
    by_order Less is =
        either-first (is_le (place_cmp p most)) (is_le (place_cmp q most)) (λ reached.
        le-le p q most (ap is_le is) reached)
    by_order Equal is =
        either-first (is_le (place_cmp p most)) (is_le (place_cmp q most)) (λ reached.
        le-le p q most (ap is_le is) reached)
    by_order Greater is =
        either-last (is_le (place_cmp p most)) (is_le (place_cmp q most)) (λ reached.
        le-le q p most (le-back q p (ap is_lt is)) reached)

module _ (from : Whence) (part : ℕ) where
  abbrev by_log : KeptRecord → Option (List ℕ)
  by_log kept = place_allowed part from kept.logged

  least-any : (most : List ℕ) (records : List KeptRecord)
      → reaches most (first_allowed from (places_kept (lengths_kept (images_in records) part)))
      ≡ list_any (λ kept. reaches most (by_log kept)) records
  least-any most =
      by-end (λ (records : List KeptRecord).
      reaches most (first_allowed from (places_kept (lengths_kept (images_in records) part)))
      ≡ list_any (λ kept. reaches most (by_log kept)) records) refl
      (λ records kept is. ap (reaches most) (least-more from records kept part)
      ∙ reaches-lesser most
      (first_allowed from (places_kept (lengths_kept (images_in records) part))) (by_log kept)
      ∙ ap (λ (b : Bool). b || reaches most (by_log kept)) is
      ∙ sym (any-push (λ one. reaches most (by_log one)) records kept))

  pub least-found : (records : List KeptRecord) (found : Option (List ℕ))
      → IsLeastBy by_log records found
      → found ≡ first_allowed from (places_kept (lengths_kept (images_in records) part))
  least-found records found least =
      same-found found (first_allowed from (places_kept (lengths_kept (images_in records) part)))
      (λ most. least most ∙ sym (least-any most records))

  module _ (unit : UnitOfRecovery) where
    abbrev FoundAmong : List KeptRecord → Type 0
    FoundAmong records =
        (found : Option (List ℕ)) × IsNext from (others_in unit part records) found
        × IsLeastBy (place_other unit part from) records found

    found-among : (records : List KeptRecord) → FoundAmong records
    found-among =
        by-end FoundAmong
        (None, (λ place stands. absurd (omega (arith, stands.1.1))), λ most. refl)
        (λ records kept before. (
          lesser before.0 (place_other unit part from kept),
          next-other from unit part records kept before.0 before.1,
          λ most. reaches-lesser most before.0 (place_other unit part from kept)
              ∙ ap (λ (b : Bool). b || reaches most (place_other unit part from kept)) (before.2 most)
              ∙ sym (any-push (λ one. reaches most (place_other unit part from one)) records kept),
        ))

    pub other-found : (records : List KeptRecord) (found : Option (List ℕ))
        → IsLeastBy (place_other unit part from) records found
        → IsNext from (others_in unit part records) found
    other-found records found least =
        let among = found-among records in
        subst (IsNext from (others_in unit part records))
        (same-found among.0 found (λ most. among.2 most ∙ sym (least most))) among.1

-- ---- the first place in order

abbrev place_in : Option (List ℕ) → List ℕ
place_in None = []
place_in (Some place) = place

module _ (whose : Whose) (part : ℕ) (from : Whence) where
  abbrev by : KeptRecord → Option (List ℕ)
  by kept = place_by whose part from kept

  allowed-is : (before : Before) (place : List ℕ)
      → place_allowed part from (Some before) ≡ Some place
      → (key_of before ≡ part ∷ 1 ∷ place) × (allows from place ≡ true)
  allowed-is before place =
      by_test (before.part.0 == part && allows from before.place) refl before.old refl
    where
      by_test : (test : Bool) → (before.part.0 == part && allows from before.place) ≡ test
          → (old : Option (List ℕ)) → before.old ≡ old
          → place_when test before.place old ≡ Some place
          → (key_of before ≡ part ∷ 1 ∷ place) × (allows from place ≡ true)
      by_test false is old old_is found = absurd cc
      by_test true is None old_is found = absurd cc
      by_test true is (Some bytes) old_is found =
          let both = and-both (before.part.0 == part) (allows from before.place) is in
          let at : before.place ≡ place = ap place_in found in (
            ap (λ (was : Option (List ℕ)). before.part.0 ∷ shelf_of was ∷ before.place) old_is
                ∙ ap (λ (n : ℕ). n ∷ 1 ∷ before.place) (eqb-true before.part.0 part both.0)
                ∙ ap (λ (p : List ℕ). part ∷ 1 ∷ p) at,
            ap (allows from) (sym at) ∙ both.1,
          )

  abbrev IsPlaced : KeptRecord → List ℕ → Type 0
  IsPlaced kept place = IsKeyed kept (part ∷ 1 ∷ place) × (allows from place ≡ true)

  image-placed : (which : Which) (kept : KeptRecord) (place : List ℕ) → IsAlike kept
      → place_allowed part from (image_by which kept) ≡ Some place → IsPlaced kept place
  image-placed which kept place alike = by_image (image_by which kept) refl
    where
      by_image : (image : Option Before) → image_by which kept ≡ image
          → place_allowed part from image ≡ Some place → IsPlaced kept place
      by_image None is found = absurd cc
      by_image (Some before) is found =
          let keyed = key-of-image which kept before alike is in
          let allowed = allowed-is before place found in
          ((keyed.0, keyed.1 ∙ allowed.0), allowed.1)

placed : (whose : Whose) (part : ℕ) (from : Whence) (kept : KeptRecord) (place : List ℕ)
    → IsAlike kept → place_by whose part from kept ≡ Some place
    → IsPlaced whose part from kept place
placed Log part from kept place alike found = image-placed Log part from Logged kept place alike found
placed (Others unit) part from kept place alike found =
    by_unit (same_unit unit kept.unit) found
  where
    by_unit : (mine : Bool)
        → (if mine then None else place_allowed part from kept.kept) ≡ Some place
        → IsPlaced (Others unit) part from kept place
    by_unit true found = absurd cc
    by_unit false found = image-placed (Others unit) part from Kept kept place alike found

some-place : (found : Option (List ℕ)) → is_some found ≡ true → found ≡ Some (place_in found)
some-place None is = absurd (false≢true is)
some-place (Some place) is = refl

reaches-some : (most : List ℕ) (found : Option (List ℕ)) → reaches most found ≡ true
    → is_some found ≡ true
reaches-some most None is = is
reaches-some most (Some place) is = refl

-- what is known of the numbers that the search goes over
pub record IsSearched (whose : Whose) (part : ℕ) (from : Whence) (records : List KeptRecord)
    (numbers : List ℕ) : Type 0 where
  pub within : AreNumbers records numbers
  pub all : (number : ℕ) → number < length records
      → is_some (place_by whose part from (record_at records number)) ≡ true
      → Contains numbers number
  pub sorted : IsInOrder records numbers

pub searched : (whose : Whose) (part : ℕ) (from : Whence) (records : List KeptRecord)
    (order numbers : List ℕ) → AreAlike records → IsOrder records order
    → AreNumbers records numbers
    → ((number : ℕ) (place : List ℕ) → Contains order number
    → key_at records number ≡ part ∷ 1 ∷ place → allows from place ≡ true
    → Contains numbers number)
    → IsInOrder records numbers → IsSearched whose part from records numbers
searched whose part from records order numbers alike ordered within all sorted = record {
  within = within;
  all = λ number inside is.
      let one = record_at records number in
      let place = place_in (place_by whose part from one) in
      let is_placed = placed whose part from one place (alike number no_record inside)
      (some-place (place_by whose part from one) is) in
      all number place (ordered.all number inside is_placed.0.0) is_placed.0.1 is_placed.1;
  sorted = sorted;
}

module _ (whose : Whose) (part : ℕ) (from : Whence) (records : List KeptRecord)
    (numbers : List ℕ) (alike : AreAlike records)
    (search : IsSearched whose part from records numbers) where
  abbrev of : ℕ → Option (List ℕ)
  of number = place_by whose part from (record_at records number)

  abbrev has_place : ℕ → Bool
  has_place number = is_some (of number)

  by-number : (most : List ℕ)
      → list_any (λ kept. reaches most (place_by whose part from kept)) records
      ≡ list_any (λ number. reaches most (of number)) numbers
  by-number most =
      any-numbers (λ kept. reaches most (place_by whose part from kept)) records numbers
      search.within (λ number inside is.
      search.all number inside (reaches-some most (of number) is))

  pub none-first : list_any has_place numbers ≡ false
      → IsLeastBy (place_by whose part from) records None
  none-first none most =
      sym (by-number most ∙ not-true (list_any (λ number. reaches most (of number)) numbers)
      (λ any. let found = Any-from_list_any (λ number. reaches most (of number)) numbers any in
      clash (list_any has_place numbers)
      (list_any_at has_place numbers found.0 found.1 found.2
      (ap has_place found.3 ∙ reaches-some most (of found.1) found.4)) none))

  pub some-first : (i number : ℕ) (place : List ℕ) → i < length numbers
      → number ≡ get_or numbers i number → of number ≡ Some place
      → list_any has_place (take i numbers) ≡ false
      → IsLeastBy (place_by whose part from) records (Some place)
  some-first i number place inside is found none_before most =
      both_ways (reaches most (Some place)) (list_any reached numbers) to_any to_first
      ∙ sym (by-number most)
    where
      reached : ℕ → Bool
      reached other = reaches most (of other)

      to_any : reaches most (Some place) ≡ true → list_any reached numbers ≡ true
      to_any here =
          list_any_at reached numbers i number inside
          (sym (ap reached is) ∙ ap (reaches most) found ∙ here)

      key-here-is : (other : ℕ) (at : List ℕ) → other < length records → of other ≡ Some at
          → key_at records other ≡ part ∷ 1 ∷ at
      key-here-is other at within is =
          (placed whose part from (record_at records other) at
          (alike other no_record within) is).0.1

      by_index : (j other : ℕ) → j < length numbers → get_or numbers j other ≡ other
          → reached other ≡ true → ((j < i) ⊎ (i ≤ j)) → reaches most (Some place) ≡ true
      by_index j other within other_is reach (inl before) =
          absurd (clash (list_any has_place (take i numbers))
          (list_any_at has_place (take i numbers) j other
          (omega (arith, length-take i numbers, before, inside))
          (ap has_place (get_or-take i numbers j other before ∙ other_is)
          ∙ reaches-some most (of other) reach)) none_before)
      by_index j other within other_is reach (inr after) =
          let at : List ℕ = place_in (of other) in
          let at_is : of other ≡ Some at =
          some-place (of other) (reaches-some most (of other) reach) in
          let number_in : number < length records =
          subst (λ n. n < length records) (sym is) (search.within i number inside) in
          let other_in : other < length records =
          subst (λ n. n < length records) other_is (search.within j other within) in
          let later : is_lt (place_cmp (key_at records other) (key_at records number)) ≡ false =
          ap (λ n. is_lt (place_cmp (key_at records n) (key_at records number))) (sym other_is)
          ∙ ap (λ n. is_lt (place_cmp (key_at records (get_or numbers j other))
          (key_at records n))) (is ∙ get_or_default numbers i number other inside)
          ∙ sorted_far (λ one two. is_lt (place_cmp (key_at records one) (key_at records two)))
          (ranks_by nat_list_cmp_total (key_at records)) numbers search.sorted i j other after
          within in
          let places : is_lt (place_cmp at place) ≡ false =
          ap is_lt (sym (same-head part at place))
          ∙ ap (λ key. is_lt (place_cmp key (part ∷ 1 ∷ place)))
          (sym (key-here-is other at other_in at_is))
          ∙ ap (λ key. is_lt (place_cmp (key_at records other) key))
          (sym (key-here-is number place number_in found)) ∙ later in
          le-le place at most (le-back place at places)
          (sym (ap (reaches most) at_is) ∙ reach)

      to_first : list_any reached numbers ≡ true → reaches most (Some place) ≡ true
      to_first any =
          let found = Any-from_list_any reached numbers any in
          by_index found.0 found.1 found.2 found.3 found.4 (cases_lt found.0 i)
