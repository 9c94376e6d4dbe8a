-- Lists of numbers in order: what a search by halves finds, and that they stay in order once one is
-- put in or taken out.
use Rattle.std.proofs.Common.{◌≡◌, ℕ, zero, suc, ◌+◌, ◌-◌, ◌<◌, ◌≤◌, Bool, true, false, cond, not}
use Rattle.std.proofs.Common.{List, [], ◌∷◌, ◌++◌, length, get_or, filter, refl, sym, ap, subst, ◌∙◌}
use Rattle.std.proofs.Common.{◌⊎◌, inl, inr, arith, max}
use Rattle.std.specs.Prelude.{All, Err, None, Ok, Option, Result, Some, if◌then◌else◌, is_err}
use Rattle.std.specs.Prelude.{is_none, is_ok, is_some}
use Rattle.std.specs.Cmp.{IsStrictWeakOrder}
use Rattle.std.specs.List.{Contains, between, insert, remove}
use Rattle.std.specs.List.Sorted.{IsPartitionPoint, IsPartitionedBy, IsSortedBy}
use Rattle.std.specs.Ordering.{is_le, is_lt, nat_cmp, ordering_index, ordering_reverse}
use Rattle.std.specs.Ordering.{ordering_then}
use Rattle.std.specs.declared.cmp.Ordering.{Ordering}
use Rattle.std.specs.declared.cmp.Ordering.TheVariants.{Less, Equal, Greater}
use Rattle.std.proofs.lemmas.Bool.{cases_lt, true≢false, false≢true}
use Rattle.std.proofs.Math.Nat.{max-eq_left, max_comm}
use Rattle.std.proofs.lemmas.Cmp.{nat_list_cmp_total}
use Rattle.std.proofs.lemmas.List.Edits.{get_or-between, get_or-insert_above, get_or-insert_at}
use Rattle.std.proofs.lemmas.List.Edits.{get_or-insert_below, get_or-remove_above}
use Rattle.std.proofs.lemmas.List.Edits.{get_or-remove_below, length-between, length-insert}
use Rattle.std.proofs.lemmas.List.Edits.{length-remove}
use Rattle.std.proofs.lemmas.List.Elements.{Contains-append_left, Contains-push}
use Rattle.std.proofs.lemmas.List.Sorted.{searchable_from_sorted, sorted_far}
use Rattle.vr_types.specs.Content.{place_cmp}
use Rattle.vr_space.proofs.CallerLemmas.{same_is_equal}
use Rattle.vr_undo.specs.Order.{IsInOrder, comes_before, key_at, listed}
use Rattle.vr_undo.specs.declared.order.Bound.{Bound}
use Rattle.vr_undo.specs.declared.record.KeptRecord.{KeptRecord}

-- ---- a bound parts what is in order

before-index : (past : Bool) (o : Ordering) → cond past (is_le o) (is_lt o) ≡ true
    → ordering_index o ≤ cond past 1 0
before-index true Less is = omega arith
before-index true Equal is = omega arith
before-index true Greater is = absurd (false≢true is)
before-index false Less is = omega arith
before-index false Equal is = absurd (false≢true is)
before-index false Greater is = absurd (false≢true is)

index-before : (past : Bool) (o : Ordering) → ordering_index o ≤ cond past 1 0
    → cond past (is_le o) (is_lt o) ≡ true
index-before true Less is = refl
index-before true Equal is = refl
index-before true Greater is = absurd (omega (arith, is))
index-before false Less is = refl
index-before false Equal is = absurd (omega (arith, is))
index-before false Greater is = absurd (omega (arith, is))

at-most : (a b most : ℕ) → a ≤ b → b ≤ most → a ≤ most
at-most a b most first second = omega (arith, first, second)

pub parted : (records : List KeptRecord) (order : List ℕ) (bound : Bound)
    → IsInOrder records order
    → IsPartitionedBy (λ number. comes_before bound (key_at records number)) order
parted records order bound sorted i j d le within before =
    let first : Ordering = place_cmp (key_at records (get_or order i d)) (listed bound.key) in
    let later : Ordering = place_cmp (key_at records (get_or order j d)) (listed bound.key) in
    index-before bound.past first (at-most (ordering_index first) (ordering_index later)
    (cond bound.past 1 0)
    (searchable_from_sorted nat_list_cmp_total (key_at records) order (listed bound.key) sorted i j d
    le within) (before-index bound.past later before))

-- ---- what is between two bounds

module _ {X : Type 0} (lt : X → X → Bool) where
  two : (a b c d : X) → a ≡ c → b ≡ d → lt c d ≡ false → lt a b ≡ false
  two a b c d first second is = ap (λ x. lt x b) first ∙ ap (lt c) second ∙ is

  pub slice-sorted : (xs : List X) (i j : ℕ) → j ≤ length xs → IsSortedBy lt xs
      → IsSortedBy lt (between i j xs)
  slice-sorted xs i j fits sorted k d from within =
      let long = length-between xs i j fits in
      let next : i + (k + 1) ≡ (i + k) + 1 = omega arith in
      two (get_or (between i j xs) (k + 1) d) (get_or (between i j xs) k d)
      (get_or xs ((i + k) + 1) d) (get_or xs (i + k) d)
      (get_or-between xs i j (k + 1) d (omega (arith, long, within))
      ∙ ap (λ n. get_or xs n d) next)
      (get_or-between xs i j k d (omega (arith, long, within)))
      (sorted (i + k) d (omega arith) (omega (arith, long, within, fits)))

  -- by another test that answers the same of its elements
  pub resorted : (other : X → X → Bool) (P : X → Type 0) (xs : List X) → All P xs
      → ((x y : X) → P x → P y → other x y ≡ lt x y) → IsSortedBy lt xs → IsSortedBy other xs
  resorted other P xs all same sorted k d from within =
      same (get_or xs (k + 1) d) (get_or xs k d) (all (k + 1) d within)
      (all k d (omega (arith, within))) ∙ sorted k d from within

  pub insert-sorted : (xs : List X) (at : ℕ) (y : X) → at ≤ length xs → IsSortedBy lt xs
      → ((k : ℕ) (d : X) → k < at → lt y (get_or xs k d) ≡ false)
      → ((k : ℕ) (d : X) → at ≤ k → k < length xs → lt (get_or xs k d) y ≡ false)
      → IsSortedBy lt (insert xs at y)
  insert-sorted xs at y fits sorted before after k d from within =
      by_next (cases_lt (k + 1) at)
    where
      all : List X
      all = insert xs at y

      goal : Type 0
      goal = lt (get_or all (k + 1) d) (get_or all k d) ≡ false

      inside : k + 1 < length xs + 1
      inside = omega (arith, within, length-insert xs at y fits)

      -- past the new one
      by_same : (at ≤ k) → ((at < k) ⊎ (k ≤ at)) → goal
      by_same past (inl later) =
          let back : (k - 1) + 1 ≡ k = omega (arith, later) in
          two (get_or all (k + 1) d) (get_or all k d) (get_or xs ((k - 1) + 1) d)
          (get_or xs (k - 1) d)
          (get_or-insert_above xs at y d k past fits ∙ ap (λ n. get_or xs n d) (sym back))
          (ap (λ n. get_or all n d) (sym back)
          ∙ get_or-insert_above xs at y d (k - 1) (omega (arith, later)) fits)
          (sorted (k - 1) d (omega arith) (omega (arith, inside, later)))
      by_same past (inr here) =
          let same : k ≡ at = omega (arith, past, here) in
          two (get_or all (k + 1) d) (get_or all k d) (get_or xs k d) y
          (get_or-insert_above xs at y d k past fits)
          (ap (λ n. get_or all n d) same ∙ get_or-insert_at xs at y d fits)
          (after k d past (omega (arith, inside)))

      by_here : (at ≤ k + 1) → ((k < at) ⊎ (at ≤ k)) → goal
      by_here next (inl below) =
          let same : k + 1 ≡ at = omega (arith, next, below) in
          two (get_or all (k + 1) d) (get_or all k d) y (get_or xs k d)
          (ap (λ n. get_or all n d) same ∙ get_or-insert_at xs at y d fits)
          (get_or-insert_below xs at y d k below fits)
          (before k d below)
      by_here next (inr past) = by_same past (cases_lt at k)

      by_next : ((k + 1 < at) ⊎ (at ≤ k + 1)) → goal
      by_next (inl below) =
          two (get_or all (k + 1) d) (get_or all k d) (get_or xs (k + 1) d) (get_or xs k d)
          (get_or-insert_below xs at y d (k + 1) below fits)
          (get_or-insert_below xs at y d k (omega (arith, below)) fits)
          (sorted k d (omega arith) (omega (arith, below, fits)))
      by_next (inr next) = by_here next (cases_lt k at)

  pub remove-sorted : IsStrictWeakOrder lt → (xs : List X) (at : ℕ) → at < length xs
      → IsSortedBy lt xs → IsSortedBy lt (remove xs at)
  remove-sorted ranks xs at inside sorted k d from within = by_next (cases_lt (k + 1) at)
    where
      all : List X
      all = remove xs at

      goal : Type 0
      goal = lt (get_or all (k + 1) d) (get_or all k d) ≡ false

      fewer : k + 1 + 1 < length xs
      fewer = omega (arith, within, length-remove xs at inside)

      by_here : (at ≤ k + 1) → ((k < at) ⊎ (at ≤ k)) → goal
      by_here next (inl below) =
          two (get_or all (k + 1) d) (get_or all k d) (get_or xs (k + 1 + 1) d) (get_or xs k d)
          (get_or-remove_above xs at d (k + 1) next inside)
          (get_or-remove_below xs at d k below inside)
          (sorted_far lt ranks xs sorted k (k + 1 + 1) d (omega arith) fewer)
      by_here next (inr past) =
          two (get_or all (k + 1) d) (get_or all k d) (get_or xs (k + 1 + 1) d)
          (get_or xs (k + 1) d)
          (get_or-remove_above xs at d (k + 1) next inside)
          (get_or-remove_above xs at d k past inside)
          (sorted_far lt ranks xs sorted (k + 1) (k + 1 + 1) d (omega arith) fewer)

      by_next : ((k + 1 < at) ⊎ (at ≤ k + 1)) → goal
      by_next (inl below) =
          two (get_or all (k + 1) d) (get_or all k d) (get_or xs (k + 1) d) (get_or xs k d)
          (get_or-remove_below xs at d (k + 1) below inside)
          (get_or-remove_below xs at d k (omega (arith, below)) inside)
          (sorted k d (omega arith) (omega (arith, fewer)))
      by_next (inr next) = by_here next (cases_lt k at)

pub slice-has : (records : List KeptRecord) (order : List ℕ) (low high : Bound) (i j end : ℕ)
    → IsPartitionPoint (λ n. comes_before low (key_at records n) ≡ true)
    (λ n. comes_before low (key_at records n) ≡ false) order i
    → IsPartitionPoint (λ n. comes_before high (key_at records n) ≡ true)
    (λ n. comes_before high (key_at records n) ≡ false) order j
    → j ≤ end → end ≤ length order
    → (number : ℕ) → Contains order number → comes_before low (key_at records number) ≡ false
    → comes_before high (key_at records number) ≡ true → Contains (between i end order) number
slice-has records order low high i j end at_low at_high past fits number there not_low is_high =
    by_low (cases_lt there.0 i)
  where
    at : ℕ
    at = there.0

    by_high : i ≤ at → ((at < end) ⊎ (end ≤ at)) → Contains (between i end order) number
    by_high from (inl before) =
        let back : i + (at - i) ≡ at = omega (arith, from) in (
          at - i,
          omega (arith, length-between order i end fits, before, from),
          get_or-between order i end (at - i) number (omega (arith, before, from))
              ∙ ap (λ n. get_or order n number) back ∙ there.2,
        )
    by_high from (inr after) =
        absurd (false≢true (sym (at_high.1 at number (omega (arith, past, after)) there.1)
        ∙ ap (λ n. comes_before high (key_at records n)) there.2 ∙ is_high))

    by_low : ((at < i) ⊎ (i ≤ at)) → Contains (between i end order) number
    by_low (inl before) =
        absurd (true≢false (sym (at_low.0 at number (omega arith) before)
        ∙ ap (λ n. comes_before low (key_at records n)) there.2 ∙ not_low))
    by_low (inr from) = by_high from (cases_lt at end)

-- ---- elements

contains-at : {X : Type 0} (test : X → Bool) (xs : List X) (i : ℕ) (x : X) → i < length xs
    → get_or xs i x ≡ x → test x ≡ true → Contains (filter test xs) x
contains-at test [] i x within is passes = absurd (omega (arith, within))
contains-at test (y ∷ xs) zero x within is passes =
    subst (λ z. Contains (filter test (z ∷ xs)) x) (sym is)
    (subst (λ b. Contains (cond b (x ∷ filter test xs) (filter test xs)) x) (sym passes)
    (0, omega arith, refl))
contains-at test (y ∷ xs) (suc i) x within is passes =
    by_test (test y) (contains-at test xs i x (omega (arith, within)) is passes)
  where
    by_test : (b : Bool) → Contains (filter test xs) x
        → Contains (cond b (y ∷ filter test xs) (filter test xs)) x
    by_test true there = (suc there.0, omega (arith, there.1), there.2)
    by_test false there = there

pub contains-filter : {X : Type 0} (test : X → Bool) (xs : List X) (x : X) → Contains xs x
    → test x ≡ true → Contains (filter test xs) x
contains-filter test xs x there passes =
    contains-at test xs there.0 x there.1 there.2 passes

pub contains-rest : {X : Type 0} (y : X) (xs : List X) (x : X) → (x ≡ y → ⊥)
    → Contains (y ∷ xs) x → Contains xs x
contains-rest y xs x other there = by_index there.0 there.1 there.2
  where
    by_index : (i : ℕ) → i < length (y ∷ xs) → get_or (y ∷ xs) i x ≡ x → Contains xs x
    by_index zero within is = absurd (other (sym is))
    by_index (suc i) within is = (i, omega (arith, within), is)

pub max-within : (a b n : ℕ) → a ≤ n → b ≤ n → max a b ≤ n
max-within a b n first second = by_order (cases_lt a b)
  where
    by_order : ((a < b) ⊎ (b ≤ a)) → max a b ≤ n
    by_order (inl less) =
        subst (λ m. m ≤ n) (sym (max_comm a b ∙ max-eq_left (omega (arith, less)))) second
    by_order (inr more) = subst (λ m. m ≤ n) (sym (max-eq_left more)) first

-- a key at a bound: it isn't before it, and not past it
pub at-bound : (key bound : List ℕ) → key ≡ bound
    → (is_lt (place_cmp key bound) ≡ false) × (is_le (place_cmp key bound) ≡ true)
at-bound key bound is =
    let same : place_cmp key bound ≡ Equal = ap (place_cmp key) (sym is) ∙ same_is_equal key in
    (ap is_lt same, ap is_le same)

-- one that succeeded
pub on-success : {X E A : Type 0} (result : Result X E) (new old : A) → is_err result ≡ false
    → (if is_ok result then new else old) ≡ new
on-success (Ok x) new old is = refl
on-success (Err e) new old is = absurd (true≢false is)

pub all-pushed : (numbers : List ℕ) (end : ℕ)
    → ((number : ℕ) → number < end → Contains numbers number)
    → (number : ℕ) → number < end + 1 → Contains (numbers ++ end ∷ []) number
all-pushed numbers end all number within = by_number (cases_lt number end)
  where
    by_number : ((number < end) ⊎ (end ≤ number)) → Contains (numbers ++ end ∷ []) number
    by_number (inl before) = Contains-append_left numbers (end ∷ []) number (all number before)
    by_number (inr past) =
        let same : end ≡ number = omega (arith, within, past) in
        subst (Contains (numbers ++ end ∷ [])) same (Contains-push numbers end)

-- ---- a bound of a place

same-number : (n : ℕ) → nat_cmp n n ≡ Equal
same-number n = by_order (nat_cmp n n) (same_is_equal (n ∷ []))
  where
    by_order : (o : Ordering) → ordering_then o Equal ≡ Equal → o ≡ Equal
    by_order Less is = is
    by_order Equal is = refl
    by_order Greater is = is

pub same-head : (part : ℕ) (p q : List ℕ)
    → place_cmp (part ∷ 1 ∷ p) (part ∷ 1 ∷ q) ≡ place_cmp p q
same-head part p q =
    ap (λ (o : Ordering). ordering_then o (ordering_then (nat_cmp 1 1) (place_cmp p q)))
    (same-number part)

pub before-end : (part : ℕ) (place : List ℕ)
    → is_lt (place_cmp (part ∷ 1 ∷ place) (part ∷ 2 ∷ [])) ≡ true
before-end part place =
    ap (λ (o : Ordering). is_lt (ordering_then o (ordering_then (nat_cmp 1 2)
    (place_cmp place [])))) (same-number part)

pub stood-bound : (part : ℕ) (low : List ℕ) (past : Bool) (place : List ℕ)
    → cond past (is_le (place_cmp (part ∷ 1 ∷ place) (part ∷ 1 ∷ low)))
    (is_lt (place_cmp (part ∷ 1 ∷ place) (part ∷ 1 ∷ low)))
    ≡ not (cond past (is_lt (place_cmp low place)) (is_le (place_cmp low place)))
stood-bound part low past place =
    ap (λ (o : Ordering). cond past (is_le o) (is_lt o)) (same-head part place low
    ∙ nat_list_cmp_total.antisymm place low)
    ∙ by_order past (place_cmp low place)
  where
    by_order : (b : Bool) (o : Ordering)
        → cond b (is_le (ordering_reverse o)) (is_lt (ordering_reverse o))
        ≡ not (cond b (is_lt o) (is_le o))
    by_order true Less = refl
    by_order true Equal = refl
    by_order true Greater = refl
    by_order false Less = refl
    by_order false Equal = refl
    by_order false Greater = refl

-- no place is before none
pub from-start : (place : List ℕ) → is_le (place_cmp [] place) ≡ true
from-start [] = refl
from-start (n ∷ place) = refl

pub not-some : {X : Type 0} (found : Option X) → is_none found ≡ true → is_some found ≡ false
not-some None is = refl
not-some (Some x) is = absurd (false≢true is)
