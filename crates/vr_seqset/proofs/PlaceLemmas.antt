-- Places in ascending order, tested one by one.
use Rattle.std.proofs.Common.{◌≡◌, ℕ, List, [], ◌∷◌, ◌++◌, map, Option, Some, None, Bor, sym, ap}
use Rattle.std.proofs.Common.{subst, ◌∙◌}
use Rattle.std.specs.Prelude.{IfSome}
use Rattle.std.specs.List.{AllByRecursion}
use Rattle.std.specs.List.Sorted.{IsStrictlySortedBy}
use Rattle.std.specs.declared.cmp.Ordering.TheVariants.{Less}
use Rattle.std.specs.Ordering.{nat_cmp}
use Rattle.std.specs.Cmp.Lexicographic.{slice_cmp}
use Rattle.std.proofs.lemmas.Cmp.{nat_list_cmp_total}
use Rattle.std.proofs.lemmas.Map.Keys.{sorted_head, sorted_tail}
use Rattle.vr_seqset.specs.Entry.{Entry}

abbrev pub Sorted : List (List ℕ) → Type 0
Sorted places = IsStrictlySortedBy (slice_cmp nat_cmp) places

abbrev pub places_below : Option (Bor (List ℕ)) → List (List ℕ)
places_below None = []
places_below (Some place) = place.now ∷ []

-- all places ascend exactly where the one that was read last and those that are left do
pub record StillAscend (all : List (List ℕ)) (below : Option (Bor (List ℕ)))
    (left : List Entry) : Type 0 where
  pub to : Sorted all → Sorted (places_below below ++ map (λ e. e.high) left)
  pub back : Sorted (places_below below ++ map (λ e. e.high) left) → Sorted all

below_all : (p q : List ℕ) (places : List (List ℕ)) → slice_cmp nat_cmp p q ≡ Less
    → AllByRecursion (λ x. slice_cmp nat_cmp q x ≡ Less) places
    → AllByRecursion (λ x. slice_cmp nat_cmp p x ≡ Less) places
below_all p q [] lt all = tt
below_all p q (x ∷ places) lt all =
    (nat_list_cmp_total.trans p q x lt all.0, below_all p q places lt all.1)

sorted_more : (p q : List ℕ) (places : List (List ℕ)) → slice_cmp nat_cmp p q ≡ Less
    → Sorted (q ∷ places) → Sorted (p ∷ q ∷ places)
unfolding IsStrictlySortedBy
sorted_more p q places lt sorted =
    ((lt, below_all p q places lt (sorted_head (slice_cmp nat_cmp) q places sorted)), sorted)

sorted_first : (p q : List ℕ) (places : List (List ℕ)) → Sorted (p ∷ q ∷ places)
    → slice_cmp nat_cmp p q ≡ Less
sorted_first p q places sorted = (sorted_head (slice_cmp nat_cmp) p (q ∷ places) sorted).0

pub next_none : (all : List (List ℕ)) (left after : List Entry) (e : Entry) (high : Bor (List ℕ))
    → left ≡ e ∷ after → high.now ≡ e.high → StillAscend all None left
    → StillAscend all (Some high) after
next_none all left after e high cut high-is still =
    let same : map (λ (x : Entry). x.high) left ≡ high.now ∷ map (λ (x : Entry). x.high) after =
    ap (map (λ (x : Entry). x.high)) cut ∙ ap
    (λ (p : List ℕ). p ∷ map (λ (x : Entry). x.high) after) (sym high-is) in
    record {
      to = λ s. subst Sorted same (still.to s);
      back =
          λ s. still.back (subst Sorted (sym same) s);
    }

pub next_some : (all : List (List ℕ)) (left after : List Entry) (e : Entry)
    (place high : Bor (List ℕ)) → left ≡ e ∷ after → high.now ≡ e.high
    → slice_cmp nat_cmp place.now high.now ≡ Less → StillAscend all (Some place) left
    → StillAscend all (Some high) after
next_some all left after e place high cut high-is lt still =
    let same : place.now ∷ map (λ (x : Entry). x.high) left ≡ place.now ∷ high.now ∷ map
    (λ (x : Entry). x.high) after =
    ap (λ (es : List Entry). place.now ∷ map (λ (x : Entry). x.high) es) cut
    ∙ ap (λ (p : List ℕ). place.now ∷ p ∷ map (λ (x : Entry). x.high) after) (sym high-is) in
    record {
      to = λ s. sorted_tail (slice_cmp nat_cmp) place.now
          (high.now ∷ map (λ (x : Entry). x.high) after) (subst Sorted same (still.to s));
      back = λ s. still.back (subst Sorted (sym same)
          (sorted_more place.now high.now (map (λ (x : Entry). x.high) after) lt s));
    }

pub next_still : (all : List (List ℕ)) (left after : List Entry) (e : Entry)
    (below : Option (Bor (List ℕ))) (high : Bor (List ℕ)) → left ≡ e ∷ after → high.now ≡ e.high
    → IfSome below (λ place. slice_cmp nat_cmp place.now high.now ≡ Less)
    → StillAscend all below left → StillAscend all (Some high) after
next_still all left after e None high cut high-is lt still =
    next_none all left after e high cut high-is still
next_still all left after e (Some place) high cut high-is lt still =
    next_some all left after e place high cut high-is lt still

pub not_above : (all : List (List ℕ)) (left after : List Entry) (e : Entry)
    (below : Option (Bor (List ℕ))) (high : Bor (List ℕ)) → left ≡ e ∷ after → high.now ≡ e.high
    → (IfSome below (λ place. slice_cmp nat_cmp place.now high.now ≡ Less) → ⊥)
    → StillAscend all below left → Sorted all → ⊥
not_above all left after e None high cut high-is broken still sorted = broken tt
not_above all left after e (Some place) high cut high-is broken still sorted =
    let same : place.now ∷ map (λ (x : Entry). x.high) left ≡ place.now ∷ high.now ∷ map
    (λ (x : Entry). x.high) after =
    ap (λ (es : List Entry). place.now ∷ map (λ (x : Entry). x.high) es) cut
    ∙ ap (λ (p : List ℕ). place.now ∷ p ∷ map (λ (x : Entry). x.high) after) (sym high-is) in
    broken (sorted_first place.now high.now (map (λ (x : Entry). x.high) after)
    (subst Sorted same (still.to sorted)))

pub none_left : (all : List (List ℕ)) (below : Option (Bor (List ℕ))) (left : List Entry)
    → left ≡ [] → StillAscend all below left → Sorted all
unfolding IsStrictlySortedBy
none_left all None left same still = still.back (rw same tt)
none_left all (Some place) left same still = still.back (rw same (tt, tt))
