-- The merged history is what a stable sort by stamp and volume leaves.
use Rattle.std.proofs.Common.{◌≡◌, ℕ, Bool, true, false, cond, ◌||◌, ◌&&◌, ◌==◌, List, map}
use Rattle.std.proofs.Common.{nat_lt, nat_le, not, refl, sym, ap, ◌∙◌, arith}
use Rattle.std.proofs.lemmas.List.{map-id}
use Rattle.std.specs.Cmp.{IsStrictWeakOrder, IsTotalOrder, nat_cmp_total, on_total, then_total}
use Rattle.std.specs.List.Sorted.{IsSortedByKey, IsStableByKey}
use Rattle.std.specs.declared.cmp.Ordering.{Ordering}
use Rattle.std.specs.declared.cmp.Ordering.TheVariants.{Less, Equal, Greater}
use Rattle.std.specs.Ordering.{is_lt, nat_cmp, ordering_then}
use Rattle.std.proofs.lemmas.Bool.Decides.{nat_tests}
use Rattle.std.proofs.lemmas.List.Sorted.{ranks_by}
use Rattle.vr_history.specs.Merged.{Numbered, comes_before, entered, in_order}
use Rattle.vr_trace.specs.declared.merging.NumberedEntry.{NumberedEntry}
use Rattle.vr_trace.specs.Numbering.{numbered_of}
use Rattle.vr_trace.proofs.Insertions.{IsInsertion, ordered_is, sorted_views}
use Rattle.vr_trace.proofs.Sorting.{in_rank}

-- the stamp and the volume, by which entries are sorted
abbrev pub rank : Numbered → ℕ × ℕ
rank this = (this.entry.stamp, this.volume)

abbrev pub held_rank : NumberedEntry → ℕ × ℕ
held_rank held = rank (numbered_of held)

abbrev pub compare_ranks : ℕ × ℕ → ℕ × ℕ → Ordering
compare_ranks x y = ordering_then (nat_cmp x.0 y.0) (nat_cmp x.1 y.1)

abbrev pub less : Numbered → Numbered → Bool
less x y = is_lt (compare_ranks (rank x) (rank y))

compare_total : IsTotalOrder compare_ranks
compare_total = then_total (on_total (λ t. t.0) nat_cmp_total) (on_total (λ t. t.1) nat_cmp_total)

pub less_order : IsStrictWeakOrder less
less_order = ranks_by compare_total rank

insertion : IsInsertion comes_before entered in_order
insertion = record {
  one = λ y. refl;
  more = λ y z zs. refl;
  none = refl;
  next = λ y ys. refl;
}

ordering_tests : (a b c d : Bool) → is_lt (ordering_then (cond a Less (cond b Equal Greater))
    (cond c Less (cond d Equal Greater))) ≡ (a || (b && c))
ordering_tests true b c d = refl
ordering_tests false true true d = refl
ordering_tests false true false true = refl
ordering_tests false true false false = refl
ordering_tests false false c d = refl

stamp_tests : (s t v w : ℕ) → (nat_lt t s || (t == s && nat_lt w v))
    ≡ not (nat_lt s t || (s == t && nat_le v w))
stamp_tests s t v w = grind (arith, nat_tests)

-- by stamp, and at one stamp by volume
pub less_tests : (x y : Numbered) → less x y ≡ (nat_lt x.entry.stamp y.entry.stamp
    || (x.entry.stamp == y.entry.stamp && nat_lt x.volume y.volume))
less_tests x y = ordering_tests (nat_lt x.entry.stamp y.entry.stamp)
    (x.entry.stamp == y.entry.stamp) (nat_lt x.volume y.volume) (x.volume == y.volume)

-- one is less than another where the other doesn't come before it
less_is : (x y : Numbered) → less y x ≡ not (comes_before x y)
less_is x y = less_tests y x ∙ stamp_tests x.entry.stamp y.entry.stamp x.volume y.volume

-- what the sort leaves
pub sorted_entries : (xs ys : List NumberedEntry) → IsSortedByKey held_rank compare_ranks ys
    → IsStableByKey held_rank compare_ranks xs ys
    → map numbered_of ys ≡ in_order (map numbered_of xs)
sorted_entries xs ys sorted stable =
    sorted_views (λ x y. less (numbered_of x) (numbered_of y)) numbered_of comes_before entered
    in_order insertion (λ x y. less_is (numbered_of x) (numbered_of y))
    (ranks_by compare_total held_rank) xs ys sorted stable

-- the order of the definitions is that of the ranks
pub in_order_is : (xs : List Numbered) → in_rank less xs ≡ in_order xs
in_order_is xs = sym (map-id (in_rank less xs))
    ∙ ordered_is less (λ x. x) comes_before entered in_order insertion less_is xs
    ∙ ap in_order (map-id xs)
