-- The weight of the first places.
use Rattle.std.proofs.Common.{◌≡◌, ⊎_elim, ℕ, zero, suc, ◌+◌, ◌*◌, ◌<◌, ◌≤◌, List}
use Rattle.std.proofs.Common.{[], ◌∷◌, ◌++◌, length, take, sym, ap, ◌∙◌, arith, get_or, subst}
use Rattle.std.proofs.lemmas.Bool.{cases_lt}
use Rattle.std.proofs.lemmas.List.{take_more, get_or-map, length-map}
use Rattle.vr_split.specs.declared.weights.Entry.{Entry}
use Rattle.vr_space.specs.Room.{Lengths, weight}
use Rattle.vr_split.specs.Cut.{HaveHalf}
use Rattle.vr_split.specs.Entries.{lengths_seen}

abbrev seen : Entry → List ℕ × ℕ
seen entry = (entry.place.place, entry.longest)

-- the first weigh no more than all
pub weight_least : (lengths : Lengths) (n : ℕ) → weight (take n lengths) ≤ weight lengths
weight_least [] zero = omega arith
weight_least [] (suc n) = omega arith
weight_least (entry ∷ lengths) zero = omega arith
weight_least (entry ∷ lengths) (suc n) = omega (arith, weight_least lengths n)

pub weight-append : (xs ys : Lengths) → weight (xs ++ ys) ≡ weight xs + weight ys
weight-append [] ys = omega arith
weight-append (entry ∷ xs) ys = omega (arith, weight-append xs ys)

pub length_seen : (entries : List Entry) → length (lengths_seen entries) ≡ length entries
length_seen entries = length-map entries seen

-- one entry more
pub weight_more : (entries : List Entry) (i : ℕ) (entry : Entry) → i < length entries
    → entry ≡ get_or entries i entry
    → weight (take (i + 1) (lengths_seen entries)) ≡ weight (take i (lengths_seen entries)) +
    (entry.longest + 3)
weight_more entries i entry within read =
    let more : take (i + 1) (lengths_seen entries) ≡ take i (lengths_seen entries)
    ++ seen entry ∷ [] =
    take_more (lengths_seen entries) i (seen entry) (omega (arith, within, length_seen entries))
    ∙ ap (λ (e : List ℕ × ℕ). take i (lengths_seen entries) ++ e ∷ [])
    (get_or-map seen entries i entry (seen entry) within ∙ ap seen (sym read)) in
    ap weight more
    ∙ weight-append (take i (lengths_seen entries)) (seen entry ∷ [])
    ∙ omega arith

-- no fewer have half of the weight, where the last of them hasn't
pub none_more : (lengths : Lengths) (i : ℕ) → ((n : ℕ) → 0 < n → n ≤ i → HaveHalf lengths n → ⊥)
    → (2 * weight (take (i + 1) lengths) < weight lengths)
    → (n : ℕ) → 0 < n → n ≤ i + 1 → HaveHalf lengths n → ⊥
none_more lengths i none less n some most half = ⊎_elim
    (λ before. none n some (omega (arith, before)) half)
    (λ last. absurd
    (omega (
      arith,
      less,
      subst (λ (k : ℕ). weight lengths ≤ 2 * weight (take k lengths))
          (same n (i + 1) most last) half,
    )))
    (cases_lt n (i + 1))
  where
    same : (n m : ℕ) → n ≤ m → m ≤ n → n ≡ m
    same n m low high = omega (arith, low, high)
