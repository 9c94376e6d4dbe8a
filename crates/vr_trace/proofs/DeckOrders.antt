-- Decks by their numbers are what a stable sort by number leaves.
use Rattle.std.proofs.Common.{◌≡◌, ℕ, Bool, true, false, cond, List, nat_lt, nat_le, ◌==◌, not}
use Rattle.std.proofs.Common.{refl, ◌∙◌, arith}
use Rattle.std.specs.Borrow.{Bor}
use Rattle.std.specs.Cmp.{nat_cmp_total}
use Rattle.std.specs.List.Sorted.{IsSortedByKey, IsStableByKey}
use Rattle.std.specs.declared.cmp.Ordering.TheVariants.{Less, Equal, Greater}
use Rattle.std.specs.Ordering.{is_lt, nat_cmp}
use Rattle.std.proofs.lemmas.Bool.Decides.{nat_tests}
use Rattle.std.proofs.lemmas.List.Sorted.{ranks_by}
use Rattle.vr_trace.specs.declared.kept.KeptDeck.{KeptDeck}
use Rattle.vr_trace.specs.Listing.{by_number, deck_entered}
use Rattle.vr_trace.specs.Numbering.{held_decks}
use Rattle.vr_trace.proofs.Insertions.{IsInsertion, sorted_views}

abbrev pub number_of : Bor KeptDeck → ℕ
number_of deck = deck.now.number

abbrev less : Bor KeptDeck → Bor KeptDeck → Bool
less x y = is_lt (nat_cmp (number_of x) (number_of y))

abbrev comes_before : KeptDeck → KeptDeck → Bool
comes_before deck other = nat_le deck.number other.number

insertion : IsInsertion comes_before deck_entered by_number
insertion = record {
  one = λ y. refl;
  more = λ y z zs. refl;
  none = refl;
  next = λ y ys. refl;
}

ordering_tests : (a b : Bool) → is_lt (cond a Less (cond b Equal Greater)) ≡ a
ordering_tests true b = refl
ordering_tests false true = refl
ordering_tests false false = refl

number_tests : (m n : ℕ) → nat_lt n m ≡ not (nat_le m n)
number_tests m n = grind (arith, nat_tests)

-- one is less than another where the other doesn't come before it
less_is : (x y : Bor KeptDeck) → less y x ≡ not (comes_before x.now y.now)
less_is x y =
    ordering_tests (nat_lt (number_of y) (number_of x)) (number_of y == number_of x)
    ∙ number_tests (number_of x) (number_of y)

-- what the sort leaves
pub sorted_decks : (xs ys : List (Bor KeptDeck)) → IsSortedByKey number_of nat_cmp ys
    → IsStableByKey number_of nat_cmp xs ys → held_decks ys ≡ by_number (held_decks xs)
sorted_decks xs ys sorted stable =
    sorted_views less (λ deck. deck.now) comes_before deck_entered by_number insertion less_is
    (ranks_by nat_cmp_total number_of) xs ys sorted stable
