-- Lengths at places: which lists need no more room than others.
use Rattle.std.proofs.Common.{◌≡◌, ◌≤◌, ℕ, Bool, true, false, List, [], ◌∷◌, Option}
use Rattle.std.proofs.Common.{Some, None, refl, sym, ap, subst, ◌∙◌, arith, max, ◌⊎◌, inl, inr}
use Rattle.std.proofs.Common.{⊎_elim, true≢false}
use Rattle.std.specs.Prelude.{cond, unwrap_or}
use Rattle.std.specs.Ordering.{ordering_reverse}
use Rattle.std.specs.declared.cmp.Ordering.{Ordering}
use Rattle.std.specs.declared.cmp.Ordering.TheVariants.{Less, Equal, Greater}
use Rattle.std.proofs.lemmas.Cmp.{nat_list_cmp_total}
use Rattle.vr_types.specs.Content.{place_cmp}
use Rattle.vr_types.proofs.CallerLemmas.{same_place}
use Rattle.vr_space.specs.Room.{Lengths, Range, length_at, length_by, with_length, lengthen_by}
use Rattle.vr_space.specs.Room.{with_lengths, weight, is_in, lengths_in}
use Rattle.vr_space.proofs.CallerLemmas.{same_is_equal}

-- each is past the place
abbrev pub ArePast : List ℕ → Lengths → Type 0
ArePast place [] = Unit {0}
ArePast place (entry ∷ lengths) = (place_cmp place entry.0 ≡ Less) × ArePast place lengths

-- each place is past those before it
abbrev pub Rise : Lengths → Type 0
Rise [] = Unit {0}
Rise (entry ∷ lengths) = ArePast entry.0 lengths × Rise lengths

pub past-more : (one other : List ℕ) (lengths : Lengths) → place_cmp one other ≡ Less
    → ArePast other lengths → ArePast one lengths
past-more one other [] less past = tt
past-more one other (entry ∷ lengths) less past = (
  nat_list_cmp_total.trans one other entry.0 less past.0,
  past-more one other lengths less past.1,
)

-- ---- the length at a place

by-less : (o : Ordering) (here : ℕ) (further : Option ℕ) → (o ≡ Equal → ⊥)
    → length_by o here further ≡ further
by-less Less here further other = refl
by-less Equal here further other = absurd (other refl)
by-less Greater here further other = refl

pub none-past : (place : List ℕ) (lengths : Lengths) → ArePast place lengths
    → length_at lengths place ≡ None
none-past place [] past = refl
none-past place (entry ∷ lengths) past =
    ap (λ (o : Ordering). length_by o entry.1 (length_at lengths place)) past.0
    ∙ none-past place lengths past.1

-- none up to the first place
pub none-before : (place : List ℕ) (entry : List ℕ × ℕ) (lengths : Lengths)
    → place_cmp place entry.0 ≡ Less → ArePast entry.0 lengths
    → length_at (entry ∷ lengths) place ≡ None
none-before place entry lengths less past =
    none-past place (entry ∷ lengths) (less, past-more place entry.0 lengths less past)

-- the longer of a length and what is there
abbrev pub most_of : ℕ → Option ℕ → ℕ
most_of n None = n
most_of n (Some m) = max n m

pub at-same : (lengths : Lengths) (place : List ℕ) (n : ℕ) → Rise lengths
    → length_at (with_length lengths place n) place ≡ Some (most_of n (length_at lengths place))
at-same [] place n rise =
    ap (λ (o : Ordering). length_by o n None) (same_is_equal place)
at-same (entry ∷ lengths) place n rise =
    by (place_cmp place entry.0) refl (at-same lengths place n rise.1)
  where
    by : (o : Ordering) → place_cmp place entry.0 ≡ o
        → length_at (with_length lengths place n) place
        ≡ Some (most_of n (length_at lengths place))
        → length_at (lengthen_by o place n entry lengths (with_length lengths place n)) place
        ≡ Some (most_of n (length_by o entry.1 (length_at lengths place)))
    by Less is more =
        ap (λ (o : Ordering). length_by o n (length_at (entry ∷ lengths) place))
        (same_is_equal place)
        ∙ ap (λ (m : ℕ). Some m) (sym (ap (most_of n)
        (none-past place lengths (past-more place entry.0 lengths is rise.0))))
    by Equal is more =
        ap (λ (o : Ordering). length_by o (max n entry.1) (length_at lengths place)) is
    by Greater is more =
        ap (λ (o : Ordering). length_by o entry.1 (length_at (with_length lengths place n) place))
        is ∙ more

pub at-other : (lengths : Lengths) (place other : List ℕ) (n : ℕ)
    → (place_cmp other place ≡ Equal → ⊥)
    → length_at (with_length lengths place n) other ≡ length_at lengths other
at-other [] place other n apart = by-less (place_cmp other place) n None apart
at-other (entry ∷ lengths) place other n apart =
    by (place_cmp place entry.0) refl (at-other lengths place other n apart)
  where
    by : (o : Ordering) → place_cmp place entry.0 ≡ o
        → length_at (with_length lengths place n) other ≡ length_at lengths other
        → length_at (lengthen_by o place n entry lengths (with_length lengths place n)) other
        ≡ length_at (entry ∷ lengths) other
    by Less is more =
        by-less (place_cmp other place) n (length_at (entry ∷ lengths) other) apart
    by Equal is more =
        let same : place ≡ entry.0 = same_place place entry.0 is in
        let off : place_cmp other entry.0 ≡ Equal → ⊥ =
        λ equal. apart (ap (place_cmp other) same ∙ equal) in
        by-less (place_cmp other entry.0) (max n entry.1) (length_at lengths other) off
        ∙ sym (by-less (place_cmp other entry.0) entry.1 (length_at lengths other) off)
    by Greater is more =
        ap (length_by (place_cmp other entry.0) entry.1) more

-- ---- in order

past-with : (low place : List ℕ) (n : ℕ) (lengths : Lengths) → place_cmp low place ≡ Less
    → ArePast low lengths → ArePast low (with_length lengths place n)
past-with low place n [] less past = (less, tt)
past-with low place n (entry ∷ lengths) less past =
    by (place_cmp place entry.0) (past-with low place n lengths less past.1)
  where
    by : (o : Ordering) → ArePast low (with_length lengths place n)
        → ArePast low (lengthen_by o place n entry lengths (with_length lengths place n))
    by Less more = (less, past)
    by Equal more = past
    by Greater more = (past.0, more)

after : (o : Ordering) → o ≡ Greater → ordering_reverse o ≡ Less
after Less is = absurd cc
after Equal is = absurd cc
after Greater is = refl

pub rise-with : (lengths : Lengths) (place : List ℕ) (n : ℕ) → Rise lengths
    → Rise (with_length lengths place n)
rise-with [] place n rise = (tt, tt)
rise-with (entry ∷ lengths) place n rise =
    by (place_cmp place entry.0) refl (rise-with lengths place n rise.1)
  where
    by : (o : Ordering) → place_cmp place entry.0 ≡ o → Rise (with_length lengths place n)
        → Rise (lengthen_by o place n entry lengths (with_length lengths place n))
    by Less is more = ((is, past-more place entry.0 lengths is rise.0), rise)
    by Equal is more = rise
    by Greater is more = (
      past-with entry.0 place n lengths
          (nat_list_cmp_total.antisymm entry.0 place ∙ after (place_cmp place entry.0) is) rise.0,
      more,
    )

pub rise-withs : (lengths more : Lengths) → Rise lengths → Rise (with_lengths lengths more)
rise-withs lengths [] rise = rise
rise-withs lengths (entry ∷ more) rise =
    rise-withs (with_length lengths entry.0 entry.1) more
    (rise-with lengths entry.0 entry.1 rise)

-- ---- no more at any place

abbrev pub NoMore : Option ℕ → Option ℕ → Type 0
NoMore None there = Unit {0}
NoMore (Some n) None = ⊥
NoMore (Some n) (Some m) = n ≤ m

-- at each place no more than there
pub record IsUnder (one other : Lengths) : Type 0 where
  pub each : (place : List ℕ) → NoMore (length_at one place) (length_at other place)

pub no-more-same : (a b : Option ℕ) → a ≡ b → NoMore a b
no-more-same None b same = tt
no-more-same (Some n) None same = absurd cc
no-more-same (Some n) (Some m) same =
    let is : n ≡ m = ap (λ (o : Option ℕ). unwrap_or o 0) same in omega (arith, is)

no-more-then : (a b c : Option ℕ) → NoMore a b → NoMore b c → NoMore a c
no-more-then None b c first second = tt
no-more-then (Some n) None c first second = absurd first
no-more-then (Some n) (Some m) None first second = absurd second
no-more-then (Some n) (Some m) (Some k) first second = omega (arith, first, second)

pub under-then : (a b c : Lengths) → IsUnder a b → IsUnder b c → IsUnder a c
under-then a b c first second = record {
  each = λ place. no-more-then (length_at a place) (length_at b place) (length_at c place)
      (first.each place) (second.each place);
}

most-more : (n : ℕ) (a b : Option ℕ) → NoMore a b → most_of n a ≤ most_of n b
most-more n None None under = omega arith
most-more n None (Some m) under = omega arith
most-more n (Some k) None under = absurd under
most-more n (Some k) (Some m) under = omega (arith, under)

equal_or : (o : Ordering) → (o ≡ Equal) ⊎ (o ≡ Equal → ⊥)
equal_or Less = inr (λ same. absurd cc)
equal_or Equal = inl refl
equal_or Greater = inr (λ same. absurd cc)

-- two lists with one more length
pub under-with : (one other : Lengths) (place : List ℕ) (n : ℕ) → Rise one → Rise other
    → IsUnder one other → IsUnder (with_length one place n) (with_length other place n)
under-with one other place n rise rises under = record {
  each = λ q. ⊎_elim
      (λ equal. subst
      (λ (p : List ℕ). NoMore (length_at (with_length one place n) p)
      (length_at (with_length other place n) p)) (sym (same_place q place equal))
      (subst (λ (o : Option ℕ). NoMore o (length_at (with_length other place n) place))
      (sym (at-same one place n rise))
      (subst (λ (o : Option ℕ). NoMore (Some (most_of n (length_at one place))) o)
      (sym (at-same other place n rises))
      (most-more n (length_at one place) (length_at other place) (under.each place)))))
      (λ apart. subst (λ (o : Option ℕ). NoMore o (length_at (with_length other place n) q))
      (sym (at-other one place q n apart))
      (subst (λ (o : Option ℕ). NoMore (length_at one q) o)
      (sym (at-other other place q n apart)) (under.each q)))
      (equal_or (place_cmp q place));
}

pub under-withs : (one other more : Lengths) → Rise one → Rise other → IsUnder one other
    → IsUnder (with_lengths one more) (with_lengths other more)
under-withs one other [] rise rises under = under
under-withs one other (entry ∷ more) rise rises under =
    under-withs (with_length one entry.0 entry.1) (with_length other entry.0 entry.1) more
    (rise-with one entry.0 entry.1 rise) (rise-with other entry.0 entry.1 rises)
    (under-with one other entry.0 entry.1 rise rises under)

-- what is looked up after a length more
pub at-by : (lengths : Lengths) (place : List ℕ) (n : ℕ) (q : List ℕ) → Rise lengths
    → (Q : Option ℕ → Type 0)
    → (place_cmp q place ≡ Equal → Q (Some (most_of n (length_at lengths place))))
    → ((place_cmp q place ≡ Equal → ⊥) → Q (length_at lengths q))
    → Q (length_at (with_length lengths place n) q)
at-by lengths place n q rise Q here there = ⊎_elim
    (λ equal. subst Q (sym (ap (length_at (with_length lengths place n)) (same_place q place equal)
    ∙ at-same lengths place n rise)) (here equal))
    (λ apart. subst Q (sym (at-other lengths place q n apart)) (there apart))
    (equal_or (place_cmp q place))

-- the order in which two lengths are added doesn't matter
swaps : (lengths : Lengths) (one : List ℕ) (n : ℕ) (other : List ℕ) (m : ℕ) → Rise lengths
    → IsUnder (with_length (with_length lengths one n) other m)
    (with_length (with_length lengths other m) one n)
swaps lengths one n other m rise = record {
  each = λ q.
      at-by (with_length lengths other m) one n q (rise-with lengths other m rise)
      (λ (o : Option ℕ).
      NoMore (length_at (with_length (with_length lengths one n) other m) q) o)
      (λ at_one. at-by (with_length lengths one n) other m q (rise-with lengths one n rise)
      (λ (o : Option ℕ).
      NoMore o (Some (most_of n (length_at (with_length lengths other m) one))))
      (λ at_other.
      let q-one : q ≡ one = same_place q one at_one in
      let q-other : q ≡ other = same_place q other at_other in
      let same : one ≡ other = sym q-one ∙ q-other in
      let first : length_at (with_length lengths one n) other
      ≡ Some (most_of n (length_at lengths one)) =
      ap (length_at (with_length lengths one n)) (sym same) ∙ at-same lengths one n rise in
      let second : length_at (with_length lengths other m) one
      ≡ Some (most_of m (length_at lengths other)) =
      ap (length_at (with_length lengths other m)) same ∙ at-same lengths other m rise in
      subst (λ (o : Option ℕ). NoMore (Some (most_of m o))
      (Some (most_of n (length_at (with_length lengths other m) one)))) (sym first)
      (subst (λ (o : Option ℕ). NoMore (Some (most_of m (Some (most_of n (length_at lengths one)))))
      (Some (most_of n o))) (sym second)
      (swapped n m (length_at lengths one) (length_at lengths other)
      (ap (length_at lengths) same))))
      (λ off_other.
      let q-one : q ≡ one = same_place q one at_one in
      let apart : place_cmp one other ≡ Equal → ⊥ =
      λ equal. off_other (ap (λ (p : List ℕ). place_cmp p other) q-one ∙ equal) in
      subst (λ (o : Option ℕ).
      NoMore (length_at (with_length lengths one n) q) (Some (most_of n o)))
      (sym (at-other lengths other one m apart))
      (no-more-same _ _ (ap (length_at (with_length lengths one n)) q-one
      ∙ at-same lengths one n rise))))
      (λ off_one. at-by (with_length lengths one n) other m q (rise-with lengths one n rise)
      (λ (o : Option ℕ). NoMore o (length_at (with_length lengths other m) q))
      (λ at_other.
      let q-other : q ≡ other = same_place q other at_other in
      let apart : place_cmp other one ≡ Equal → ⊥ =
      λ equal. off_one (ap (λ (p : List ℕ). place_cmp p one) q-other ∙ equal) in
      subst (λ (o : Option ℕ).
      NoMore (Some (most_of m o)) (length_at (with_length lengths other m) q))
      (sym (at-other lengths one other n apart))
      (no-more-same _ _ (sym (ap (length_at (with_length lengths other m)) q-other
      ∙ at-same lengths other m rise))))
      (λ off_other. no-more-same _ _ (at-other lengths one q n off_one
      ∙ sym (at-other lengths other q m off_other))));
}
  where
    swapped : (n m : ℕ) (a b : Option ℕ) → a ≡ b
        → most_of m (Some (most_of n a)) ≤ most_of n (Some (most_of m b))
    swapped n m None None same = omega arith
    swapped n m None (Some b) same = absurd cc
    swapped n m (Some a) None same = absurd cc
    swapped n m (Some a) (Some b) same =
        let is : a ≡ b = ap (λ (o : Option ℕ). unwrap_or o 0) same in omega (arith, is)

-- a length that comes first may come last
pub with-last : (lengths more : Lengths) (place : List ℕ) (n : ℕ) → Rise lengths
    → IsUnder (with_lengths (with_length lengths place n) more)
    (with_length (with_lengths lengths more) place n)
with-last lengths [] place n rise = record {
  each = λ q. no-more-same (length_at (with_length lengths place n) q) _ refl;
}
with-last lengths (entry ∷ more) place n rise =
    under-then _ _ _
    (under-withs (with_length (with_length lengths place n) entry.0 entry.1)
    (with_length (with_length lengths entry.0 entry.1) place n) more
    (rise-with (with_length lengths place n) entry.0 entry.1 (rise-with lengths place n rise))
    (rise-with (with_length lengths entry.0 entry.1) place n
    (rise-with lengths entry.0 entry.1 rise))
    (swaps lengths place n entry.0 entry.1 rise))
    (with-last (with_length lengths entry.0 entry.1) more place n
    (rise-with lengths entry.0 entry.1 rise))

-- and adds nothing where one as long comes later
pub with-covered : (lengths more : Lengths) (place : List ℕ) (n m : ℕ) → Rise lengths
    → length_at more place ≡ Some m → n ≤ m
    → IsUnder (with_lengths (with_length lengths place n) more) (with_lengths lengths more)
with-covered lengths [] place n m rise has most = absurd cc
with-covered lengths (entry ∷ more) place n m rise has most =
    by (place_cmp place entry.0) refl has
    (λ later. under-then _ _ _
    (under-withs (with_length (with_length lengths place n) entry.0 entry.1)
    (with_length (with_length lengths entry.0 entry.1) place n) more
    (rise-with (with_length lengths place n) entry.0 entry.1 (rise-with lengths place n rise))
    (rise-with (with_length lengths entry.0 entry.1) place n
    (rise-with lengths entry.0 entry.1 rise))
    (swaps lengths place n entry.0 entry.1 rise))
    (with-covered (with_length lengths entry.0 entry.1) more place n m
    (rise-with lengths entry.0 entry.1 rise) later most))
  where
    covered : (longer : ℕ) (o : Option ℕ) → n ≤ longer
        → most_of longer (Some (most_of n o)) ≤ most_of longer o
    covered longer None least = omega (arith, least)
    covered longer (Some k) least = omega (arith, least)

    by : (o : Ordering) → place_cmp place entry.0 ≡ o
        → length_by o entry.1 (length_at more place) ≡ Some m
        → (length_at more place ≡ Some m
        → IsUnder (with_lengths (with_length lengths place n) (entry ∷ more))
        (with_lengths lengths (entry ∷ more)))
        → IsUnder (with_lengths (with_length lengths place n) (entry ∷ more))
        (with_lengths lengths (entry ∷ more))
    by Less is there later = later there
    by Greater is there later = later there
    by Equal is there later =
        let same : place ≡ entry.0 = same_place place entry.0 is in
        let longer : entry.1 ≡ m = ap (λ (o : Option ℕ). unwrap_or o 0) there in
        under-withs (with_length (with_length lengths place n) entry.0 entry.1)
        (with_length lengths entry.0 entry.1) more
        (rise-with (with_length lengths place n) entry.0 entry.1 (rise-with lengths place n rise))
        (rise-with lengths entry.0 entry.1 rise)
        (record {
          each = λ q.
              at-by (with_length lengths place n) entry.0 entry.1 q
              (rise-with lengths place n rise)
              (λ (o : Option ℕ). NoMore o (length_at (with_length lengths entry.0 entry.1) q))
              (λ here. subst (λ (o : Option ℕ). NoMore (Some (most_of entry.1
              (length_at (with_length lengths place n) entry.0))) o)
              (sym (ap (length_at (with_length lengths entry.0 entry.1))
              (same_place q entry.0 here) ∙ at-same lengths entry.0 entry.1 rise))
              (subst (λ (o : Option ℕ). NoMore (Some (most_of entry.1 o))
              (Some (most_of entry.1 (length_at lengths entry.0))))
              (sym (ap (length_at (with_length lengths place n)) (sym same)
              ∙ at-same lengths place n rise ∙ ap (λ (p : List ℕ).
              Some (most_of n (length_at lengths p))) same))
              (covered entry.1 (length_at lengths entry.0) (omega (arith, longer, most)))))
              (λ off. no-more-same _ _ (at-other lengths place q n
              (λ equal. off (ap (place_cmp q) (sym same) ∙ equal))
              ∙ sym (at-other lengths entry.0 q entry.1 off)));
        })

-- ---- their weight

pub under-weight : (one other : Lengths) → Rise one → Rise other → IsUnder one other
    → weight one ≤ weight other
under-weight [] other rise rises under = omega arith
under-weight (entry ∷ one) [] rise rises under =
    absurd (subst (λ (o : Option ℕ). NoMore o None)
    (ap (λ (o : Ordering). length_by o entry.1 (length_at one entry.0)) (same_is_equal entry.0))
    (under.each entry.0))
under-weight (entry ∷ one) (there ∷ other) rise rises under =
    by (place_cmp entry.0 there.0) refl
    (λ tails. under-weight one other rise.1 rises.1 tails)
    (λ later. under-weight (entry ∷ one) other rise rises.1 later)
  where
    here-is : length_at (entry ∷ one) entry.0 ≡ Some entry.1
    here-is = ap (λ (o : Ordering). length_by o entry.1 (length_at one entry.0))
        (same_is_equal entry.0)

    by : (o : Ordering) → place_cmp entry.0 there.0 ≡ o
        → (IsUnder one other → weight one ≤ weight other)
        → (IsUnder (entry ∷ one) other → weight (entry ∷ one) ≤ weight other)
        → weight (entry ∷ one) ≤ weight (there ∷ other)
    by Less is tails later = absurd
        (subst (λ (o : Option ℕ). NoMore (Some entry.1) o)
        (none-before entry.0 there other is rises.0)
        (subst (λ (o : Option ℕ). NoMore o (length_at (there ∷ other) entry.0)) here-is
        (under.each entry.0)))
    by Equal is tails later =
        let same : entry.0 ≡ there.0 = same_place entry.0 there.0 is in
        let most : entry.1 ≤ there.1 =
        subst (λ (o : Option ℕ). NoMore (Some entry.1) o)
        (ap (λ (o : Ordering). length_by o there.1 (length_at other entry.0)) is)
        (subst (λ (o : Option ℕ). NoMore o (length_at (there ∷ other) entry.0)) here-is
        (under.each entry.0)) in
        omega (
          arith,
          most,
          tails (record {
            each = λ q. ⊎_elim
                (λ equal. subst (λ (o : Option ℕ). NoMore o (length_at other q))
                (sym (none-past q one (subst (λ (p : List ℕ). ArePast p one)
                (sym (same_place q entry.0 equal)) rise.0))) tt)
                (λ apart. subst (λ (o : Option ℕ). NoMore o (length_at other q))
                (by-less (place_cmp q entry.0) entry.1 (length_at one q) apart)
                (subst (λ (o : Option ℕ). NoMore (length_at (entry ∷ one) q) o)
                (by-less (place_cmp q there.0) there.1 (length_at other q)
                (λ equal. apart (ap (place_cmp q) same ∙ equal)))
                (under.each q)))
                (equal_or (place_cmp q entry.0));
          }),
        )
    by Greater is tails later =
        let less : place_cmp there.0 entry.0 ≡ Less =
        nat_list_cmp_total.antisymm there.0 entry.0 ∙ after (place_cmp entry.0 there.0) is in
        omega (
          arith,
          later (record {
            each = λ q. ⊎_elim
                (λ equal. subst (λ (o : Option ℕ). NoMore o (length_at other q))
                (sym (none-before q entry one
                (ap (λ (p : List ℕ). place_cmp p entry.0) (same_place q there.0 equal) ∙ less)
                rise.0)) tt)
                (λ apart. subst (λ (o : Option ℕ). NoMore (length_at (entry ∷ one) q) o)
                (by-less (place_cmp q there.0) there.1 (length_at other q) apart) (under.each q))
                (equal_or (place_cmp q there.0));
          }),
        )

-- ---- those of a range

pub at-range : (range : Range) (lengths : Lengths) (place : List ℕ) → is_in range place ≡ true
    → length_at (lengths_in range lengths) place ≡ length_at lengths place
at-range range [] place is = refl
at-range range (entry ∷ lengths) place is =
    by (is_in range entry.0) refl (at-range range lengths place is)
  where
    by : (b : Bool) → is_in range entry.0 ≡ b
        → length_at (lengths_in range lengths) place ≡ length_at lengths place
        → length_at (cond b (entry ∷ lengths_in range lengths) (lengths_in range lengths)) place
        ≡ length_at (entry ∷ lengths) place
    by true inside more = ap (length_by (place_cmp place entry.0) entry.1) more
    by false outside more = more
        ∙ sym (by-less (place_cmp place entry.0) entry.1 (length_at lengths place)
        (λ equal. true≢false (sym is ∙ ap (is_in range) (same_place place entry.0 equal)
        ∙ outside)))
