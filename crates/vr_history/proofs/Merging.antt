-- Entries that are put among others in their order.
use Rattle.std.proofs.Common.{◌≡◌, ℕ, Bool, true, false, cond, ◌==◌, ◌||◌, ◌&&◌, List, [], ◌∷◌}
use Rattle.std.proofs.Common.{nat_lt, nat_le, refl, arith}
use Rattle.std.proofs.lemmas.Bool.Decides.{nat_tests}
use Rattle.vr_history.specs.Laws.{AreMerged}
use Rattle.vr_history.specs.Merged.{Numbered, comes_before, entered, in_order}

-- of two entries one comes before the other, or both do
stamps_first : (s t v w : ℕ) → (nat_lt s t || (s == t && nat_le v w)) ≡ false
    → (nat_lt t s || (t == s && nat_le w v)) ≡ true
stamps_first s t v w later = grind (arith, nat_tests, later)

pub one_first : (this other : Numbered) → comes_before this other ≡ false
    → comes_before other this ≡ true
one_first this other later =
    stamps_first this.entry.stamp other.entry.stamp this.volume other.volume later

-- an entry that comes before the first of a list comes before what another makes of it
heads : (other this : Numbered) (others : List Numbered) → comes_before other this ≡ true
    → AreMerged (other ∷ others) → AreMerged (entered this others)
    → AreMerged (other ∷ entered this others)
heads other this [] first merged below = (first, below)
heads other this (next ∷ rest) first merged below = by_test (comes_before this next) below
  where
    by_test : (test : Bool) → AreMerged (cond test (this ∷ next ∷ rest) (next ∷ entered this rest))
        → AreMerged (other ∷ cond test (this ∷ next ∷ rest) (next ∷ entered this rest))
    by_test true after = (first, after)
    by_test false after = (merged.0, after)

rest_merged : (other : Numbered) (others : List Numbered) → AreMerged (other ∷ others)
    → AreMerged others
rest_merged other [] merged = tt
rest_merged other (next ∷ rest) merged = merged.1

pub entered_merged : (this : Numbered) (others : List Numbered) → AreMerged others
    → AreMerged (entered this others)
entered_merged this [] merged = tt
entered_merged this (other ∷ others) merged =
    by_test (comes_before this other) refl
    (entered_merged this others (rest_merged other others merged))
  where
    by_test : (test : Bool) → comes_before this other ≡ test → AreMerged (entered this others)
        → AreMerged (cond test (this ∷ other ∷ others) (other ∷ entered this others))
    by_test true is below = (is, merged)
    by_test false is below = heads other this others (one_first this other is) merged below

pub in_order_merged : (entries : List Numbered) → AreMerged (in_order entries)
in_order_merged [] = tt
in_order_merged (this ∷ others) = entered_merged this (in_order others) (in_order_merged others)
