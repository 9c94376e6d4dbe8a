-- Pairs that are put in order ascend.
use Rattle.std.proofs.Common.{◌≡◌, List, [], ◌∷◌, map, refl, ap, ◌∙◌}
use Rattle.std.specs.BTreeMap.{insert_entry}
use Rattle.std.specs.Cmp.{IsTotalOrder}
use Rattle.std.specs.List.{AllByRecursion, fold}
use Rattle.std.specs.List.Sorted.{IsStrictlySortedBy}
use Rattle.std.specs.Ordering.{match_ordering, ordering_reverse}
use Rattle.std.specs.declared.cmp.Ordering.{Ordering}
use Rattle.std.specs.declared.cmp.Ordering.TheVariants.{Less, Equal, Greater}
use Rattle.std.proofs.lemmas.Cmp.{nat_list_cmp_total, on_total, then_total}
use Rattle.vr_altkey.specs.Pairs.{Pair, pair_cmp}

-- the order of pairs is total
pub pairs_total : IsTotalOrder pair_cmp
pairs_total = then_total (on_total (λ (pair : Pair). pair.0) nat_list_cmp_total)
    (on_total (λ (pair : Pair). pair.1) nat_list_cmp_total)

abbrev Kept : Type 0
Kept = List (Pair × Unit {0})

abbrev pub pairs_in : Kept → List Pair
pairs_in kept = map (λ (entry : Pair × Unit {0}). entry.0) kept

abbrev Below : Pair → List Pair → Type 0
Below pair others = AllByRecursion (λ other. pair_cmp pair other ≡ Less) others

-- a pair below another is below those that the other is below
below_further : (pair other : Pair) (others : List Pair) → pair_cmp pair other ≡ Less
    → Below other others → Below pair others
below_further pair other [] less below = tt
below_further pair other (next ∷ others) less below =
    (pairs_total.trans pair other next less below.0, below_further pair other others less below.1)

-- a pair below some is below them and a new one that it is below
below_inserted : (pair new : Pair) (kept : Kept) → pair_cmp pair new ≡ Less
    → Below pair (pairs_in kept) → Below pair (pairs_in (insert_entry pair_cmp kept new tt))
below_inserted pair new [] less below = (less, tt)
below_inserted pair new (entry ∷ kept) less below =
    by_order (pair_cmp new entry.0) (below_inserted pair new kept less below.1)
  where
    by_order : (order : Ordering) → Below pair (pairs_in (insert_entry pair_cmp kept new tt))
        → Below pair (pairs_in
        (match_ordering order ((new, tt) ∷ entry ∷ kept) ((entry.0, tt) ∷ kept)
        (entry ∷ insert_entry pair_cmp kept new tt)))
    by_order Less later = (less, below)
    by_order Equal later = below
    by_order Greater later = (below.0, later)

-- an inserted pair keeps the order
inserted_sorted : (new : Pair) (kept : Kept) → IsStrictlySortedBy pair_cmp (pairs_in kept)
    → IsStrictlySortedBy pair_cmp (pairs_in (insert_entry pair_cmp kept new tt))
unfolding IsStrictlySortedBy
inserted_sorted new [] sorted = (tt, tt)
inserted_sorted new (entry ∷ kept) sorted =
    by_order (pair_cmp new entry.0) refl (inserted_sorted new kept sorted.1)
  where
    by_order : (order : Ordering) → pair_cmp new entry.0 ≡ order
        → IsStrictlySortedBy pair_cmp (pairs_in (insert_entry pair_cmp kept new tt))
        → IsStrictlySortedBy pair_cmp
        (pairs_in (match_ordering order ((new, tt) ∷ entry ∷ kept) ((entry.0, tt) ∷ kept)
        (entry ∷ insert_entry pair_cmp kept new tt)))
    by_order Less is later = ((is, below_further new entry.0 (pairs_in kept) is sorted.0), sorted)
    by_order Equal is later = sorted
    by_order Greater is later = (
      below_inserted entry.0 new kept (pairs_total.antisymm entry.0 new
          ∙ ap ordering_reverse is) sorted.0,
      later,
    )

-- pairs put in order after some that ascend
pub folded_sorted : (pairs : List Pair) (kept : Kept) → IsStrictlySortedBy pair_cmp (pairs_in kept)
    → IsStrictlySortedBy pair_cmp
    (pairs_in (fold (λ before pair. insert_entry pair_cmp before pair tt) kept pairs))
folded_sorted [] kept sorted = sorted
folded_sorted (pair ∷ pairs) kept sorted =
    folded_sorted pairs (insert_entry pair_cmp kept pair tt) (inserted_sorted pair kept sorted)

pub none_sorted : IsStrictlySortedBy pair_cmp []
unfolding IsStrictlySortedBy
none_sorted = tt
