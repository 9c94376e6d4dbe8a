-- Where a place goes among ascending ones, and what that leaves.
use Rattle.std.proofs.Common.{◌≡◌, ℕ, zero, suc, ◌*◌, ◌<◌, ◌≤◌, List, true, false}
use Rattle.std.proofs.Common.{[], ◌∷◌, ◌++◌, length, take, drop, refl, sym, ap, ◌∙◌, arith, subst}
use Rattle.std.proofs.Common.{None, max, map, get_or, true≢false, ◌≢◌}
use Rattle.std.specs.List.{All, AllByRecursion}
use Rattle.std.specs.List.Sorted.{IsStrictlySortedBy}
use Rattle.std.specs.Ordering.{is_le, is_lt, ordering_reverse}
use Rattle.std.specs.declared.cmp.Ordering.{Ordering}
use Rattle.std.specs.declared.cmp.Ordering.TheVariants.{Less, Equal, Greater}
use Rattle.std.proofs.lemmas.Cmp.{nat_list_cmp_total, tied_itself}
use Rattle.std.proofs.lemmas.List.Elements.{All-head, All-tail, All-cons, All-nil}
use Rattle.vr_types.specs.Content.{place_cmp}
use Rattle.vr_types.proofs.CallerLemmas.{same_place}
use Rattle.vr_space.specs.Room.{Lengths, AscendLengths, weight, with_length, lengthen_by}
use Rattle.vr_space.specs.Room.{length_at, length_by}

-- a place that is below has the other above it
pub above_it : (one other : List ℕ) → place_cmp one other ≡ Less → place_cmp other one ≡ Greater
above_it one other less =
    nat_list_cmp_total.antisymm other one ∙ ap ordering_reverse less

below_it : (one other : List ℕ) → place_cmp one other ≡ Greater → place_cmp other one ≡ Less
below_it one other greater =
    nat_list_cmp_total.antisymm other one ∙ ap ordering_reverse greater

-- a place is added after those that are below it
pub with_length-after : (xs ys : Lengths) (place : List ℕ) (n : ℕ)
    → All (λ (entry : List ℕ × ℕ). place_cmp entry.0 place ≡ Less) xs
    → with_length (xs ++ ys) place n ≡ xs ++ with_length ys place n
with_length-after [] ys place n below = refl
with_length-after (entry ∷ xs) ys place n below =
    ap (λ (o : Ordering). lengthen_by o place n entry (xs ++ ys) (with_length (xs ++ ys) place n))
    (above_it entry.0 place
    (All-head (λ (e : List ℕ × ℕ). place_cmp e.0 place ≡ Less) entry xs below))
    ∙ ap (λ (l : Lengths). entry ∷ l) (with_length-after xs ys place n
    (All-tail (λ (e : List ℕ × ℕ). place_cmp e.0 place ≡ Less) entry xs below))

not_lt : (o : Ordering) → is_lt o ≡ false → is_le (ordering_reverse o) ≡ true
not_lt Less is = absurd (true≢false is)
not_lt Equal is = refl
not_lt Greater is = refl

-- a place that isn't below another has it at or before it
pub at_or_before : (one other : List ℕ) → is_lt (place_cmp one other) ≡ false
    → is_le (place_cmp other one) ≡ true
at_or_before one other is =
    ap is_le (nat_list_cmp_total.antisymm other one) ∙ not_lt (place_cmp one other) is

less_is : (o : Ordering) → is_le o ≡ true → o ≢ Equal → o ≡ Less
less_is Less is other = refl
less_is Equal is other = absurd (other refl)
less_is Greater is other = absurd (true≢false (sym is))

-- a place between those below it and those past it
pub with_length-between : (xs ys : Lengths) (place : List ℕ) (n : ℕ)
    → All (λ (entry : List ℕ × ℕ). place_cmp entry.0 place ≡ Less) xs
    → All (λ (entry : List ℕ × ℕ). is_le (place_cmp place entry.0) ≡ true) ys
    → ((d : List ℕ × ℕ) → 0 < length ys → (get_or ys 0 d).0 ≢ place)
    → with_length (xs ++ ys) place n ≡ xs ++ (place, n) ∷ ys
with_length-between xs ys place n below past other =
    with_length-after xs ys place n below ∙ ap (λ (l : Lengths). xs ++ l) (first ys past other)
  where
    first : (ys : Lengths)
        → All (λ (entry : List ℕ × ℕ). is_le (place_cmp place entry.0) ≡ true) ys
        → ((d : List ℕ × ℕ) → 0 < length ys → (get_or ys 0 d).0 ≢ place)
        → with_length ys place n ≡ (place, n) ∷ ys
    first [] past other = refl
    first (entry ∷ ys) past other =
        ap (λ (o : Ordering). lengthen_by o place n entry ys (with_length ys place n))
        (less_is (place_cmp place entry.0)
        (All-head (λ (e : List ℕ × ℕ). is_le (place_cmp place e.0) ≡ true) entry ys past)
        (λ equal. other entry (omega arith) (sym (same_place place entry.0 equal))))

-- a place that is there, after those below it
pub with_length-there : (xs ys : Lengths) (place : List ℕ) (n m : ℕ)
    → All (λ (entry : List ℕ × ℕ). place_cmp entry.0 place ≡ Less) xs
    → with_length (xs ++ (place, m) ∷ ys) place n ≡ xs ++ (place, max n m) ∷ ys
with_length-there xs ys place n m below =
    with_length-after xs ((place, m) ∷ ys) place n below
    ∙ ap (λ (o : Ordering). xs
    ++ lengthen_by o place n (place, m) ys (with_length ys place n))
    (tied_itself nat_list_cmp_total place)

-- a place that tests as below is
pub less_tested : (o : Ordering) → is_lt o ≡ true → o ≡ Less
less_tested Less is = refl
less_tested Equal is = absurd (true≢false (sym is))
less_tested Greater is = absurd (true≢false (sym is))

-- each place is past this one
abbrev pub ArePast : List ℕ → Lengths → Type 0
ArePast place lengths = AllByRecursion (λ (other : List ℕ). place_cmp place other ≡ Less)
    (map (λ (entry : List ℕ × ℕ). entry.0) lengths)

past-with : (low : List ℕ) (lengths : Lengths) (place : List ℕ) (n : ℕ) → ArePast low lengths
    → place_cmp low place ≡ Less → ArePast low (with_length lengths place n)
past-with low [] place n past less = (less, tt)
past-with low (entry ∷ lengths) place n past less =
    by (place_cmp place entry.0) (past-with low lengths place n past.1 less)
  where
    by : (o : Ordering) → ArePast low (with_length lengths place n)
        → ArePast low (lengthen_by o place n entry lengths (with_length lengths place n))
    by Less more = (less, past)
    by Equal more = past
    by Greater more = (past.0, more)

pub past-trans : (low next : List ℕ) (lengths : Lengths) → place_cmp low next ≡ Less
    → ArePast next lengths → ArePast low lengths
past-trans low next [] less past = tt
past-trans low next (entry ∷ lengths) less past = (
  nat_list_cmp_total.trans low next entry.0 less past.0,
  past-trans low next lengths less past.1,
)

-- where the last of ascending places is below another, each is
pub below_last : (lengths : Lengths) (place : List ℕ) (k : ℕ) (last : List ℕ × ℕ)
    → AscendLengths lengths → k < length lengths → last ≡ get_or lengths k last
    → place_cmp last.0 place ≡ Less
    → All (λ (entry : List ℕ × ℕ). place_cmp entry.0 place ≡ Less) (take (suc k) lengths)
unfolding IsStrictlySortedBy
below_last [] place k last ascend within is less = absurd (omega (arith, within))
below_last (entry ∷ lengths) place zero last ascend within is less =
    All-cons (λ (e : List ℕ × ℕ). place_cmp e.0 place ≡ Less) entry []
    (subst (λ (e : List ℕ × ℕ). place_cmp e.0 place ≡ Less) is less)
    (All-nil (λ (e : List ℕ × ℕ). place_cmp e.0 place ≡ Less))
below_last (entry ∷ lengths) place (suc k) last ascend within is less =
    let inside : k < length lengths = omega (arith, within) in
    All-cons (λ (e : List ℕ × ℕ). place_cmp e.0 place ≡ Less) entry (take (suc k) lengths)
    (nat_list_cmp_total.trans entry.0 last.0 place
    (past_at entry.0 lengths k last ascend.0 inside is) less)
    (below_last lengths place k last ascend.1 inside is less)
  where
    past_at : (low : List ℕ) (lengths : Lengths) (k : ℕ) (last : List ℕ × ℕ)
        → ArePast low lengths → k < length lengths → last ≡ get_or lengths k last
        → place_cmp low last.0 ≡ Less
    past_at low [] k last past within is = absurd (omega (arith, within))
    past_at low (entry ∷ lengths) zero last past within is =
        subst (λ (e : List ℕ × ℕ). place_cmp low e.0 ≡ Less) (sym is) past.0
    past_at low (entry ∷ lengths) (suc k) last past within is =
        past_at low lengths k last past.1 (omega (arith, within)) is

-- it isn't there
pub none_there : (xs ys : Lengths) (place : List ℕ) → AscendLengths ys
    → All (λ (entry : List ℕ × ℕ). place_cmp entry.0 place ≡ Less) xs
    → All (λ (entry : List ℕ × ℕ). is_le (place_cmp place entry.0) ≡ true) ys
    → ((d : List ℕ × ℕ) → 0 < length ys → (get_or ys 0 d).0 ≢ place)
    → length_at (xs ++ ys) place ≡ None
unfolding IsStrictlySortedBy
none_there [] [] place ascend below past other = refl
none_there [] (entry ∷ ys) place ascend below past other =
    let less : place_cmp place entry.0 ≡ Less =
    less_is (place_cmp place entry.0)
    (All-head (λ (e : List ℕ × ℕ). is_le (place_cmp place e.0) ≡ true) entry ys past)
    (λ equal. other entry (omega arith) (sym (same_place place entry.0 equal))) in
    ap (λ (o : Ordering). length_by o entry.1 (length_at ys place)) less
    ∙ later ys (past-trans place entry.0 ys less ascend.0)
  where
    later : (ys : Lengths) → ArePast place ys → length_at ys place ≡ None
    later [] past = refl
    later (entry ∷ ys) past =
        ap (λ (o : Ordering). length_by o entry.1 (length_at ys place)) past.0 ∙ later ys past.1
none_there (entry ∷ xs) ys place ascend below past other =
    ap (λ (o : Ordering). length_by o entry.1 (length_at (xs ++ ys) place))
    (above_it entry.0 place
    (All-head (λ (e : List ℕ × ℕ). place_cmp e.0 place ≡ Less) entry xs below))
    ∙ none_there xs ys place ascend
    (All-tail (λ (e : List ℕ × ℕ). place_cmp e.0 place ≡ Less) entry xs below) past other

-- the places after some of ascending ones ascend
pub ascend-drop : (n : ℕ) (lengths : Lengths) → AscendLengths lengths
    → AscendLengths (drop n lengths)
unfolding IsStrictlySortedBy
ascend-drop zero lengths ascend = ascend
ascend-drop (suc n) [] ascend = tt
ascend-drop (suc n) (entry ∷ lengths) ascend = ascend-drop n lengths ascend.1

-- a place that is added keeps the order
pub ascend-with : (lengths : Lengths) (place : List ℕ) (n : ℕ) → AscendLengths lengths
    → AscendLengths (with_length lengths place n)
unfolding IsStrictlySortedBy
ascend-with [] place n ascend = (tt, tt)
ascend-with (entry ∷ lengths) place n ascend =
    by (place_cmp place entry.0) refl (ascend-with lengths place n ascend.1)
  where
    by : (o : Ordering) → place_cmp place entry.0 ≡ o → AscendLengths (with_length lengths place n)
        → AscendLengths (lengthen_by o place n entry lengths (with_length lengths place n))
    by Less is more = ((is, past-trans place entry.0 lengths is ascend.0), ascend)
    by Equal is more = ascend
    by Greater is more =
        (past-with entry.0 lengths place n ascend.0 (below_it place entry.0 is), more)

-- the weight doesn't fall
pub weight-with : (lengths : Lengths) (place : List ℕ) (n : ℕ)
    → weight lengths ≤ weight (with_length lengths place n)
weight-with [] place n = omega arith
weight-with (entry ∷ lengths) place n =
    by (place_cmp place entry.0) (weight-with lengths place n)
  where
    by : (o : Ordering) → weight lengths ≤ weight (with_length lengths place n)
        → weight (entry ∷ lengths) ≤ weight
        (lengthen_by o place n entry lengths (with_length lengths place n))
    by Less more = omega arith
    by Equal more = omega arith
    by Greater more = omega (arith, more)

-- each place weighs three bytes at least
pub weight_places : (lengths : Lengths) → 3 * length lengths ≤ weight lengths
weight_places [] = omega arith
weight_places (entry ∷ lengths) = omega (arith, weight_places lengths)
