-- The volumes of a step, put at the places of their numbers one after another.
use Rattle.std.proofs.Common.{◌≡◌, ◌∙◌, ◌+◌, ◌<◌, ℕ, zero, suc, List, [], ◌∷◌, ◌++◌, Option, Some}
use Rattle.std.proofs.Common.{None, ap, arith, cond, get_or, length, set, subst}
use Rattle.std.specs.Prelude.{IfSome, is_some}
use Rattle.std.proofs.lemmas.List.{length-set, length_push, get_or-set_same}
use Rattle.std.proofs.lemmas.List.Sums.{count_by-le-length, sum_by-cons, sum_by-set, sum_by_push}
use Rattle.vr_worker.specs.Latched.{LatchedNow}
use Rattle.vr_worker.specs.Placing.{AreAt, ArePut, AreWhole, IsOfPlace, taken}

module _ {V : Type 0} (number : V → ℕ) where
  abbrev Place : Type 0
  Place = Option (LatchedNow V)

  -- 1 for a place that has a volume, and 0 for one that has none
  abbrev one : Place → ℕ
  one it = cond (is_some it) 1 0

  -- one place more, with none
  at-none : (place : ℕ) (places : List Place) → AreAt number place places
      → AreAt number place (places ++ None ∷ [])
  at-none place [] at = (tt, tt)
  at-none place (it ∷ rest) at = (at.0, at-none (suc place) rest at.1)

  pub put-none : (count : ℕ) (places : List Place) → ArePut number count places
      → ArePut number (count + 1) (places ++ None ∷ [])
  put-none count places put = record {
    many = omega (arith, put.many, length_push places None);
    placed = at-none 0 places put.placed;
  }

  pub taken-none : (places : List Place) → taken places ≡ 0
      → taken (places ++ None ∷ []) ≡ 0
  taken-none places none = omega (arith, sum_by_push one places None, none)

  -- another in its place
  at-set : (place i : ℕ) (places : List Place) (it : Place)
      → IfSome it (IsOfPlace number (place + i)) → AreAt number place places
      → AreAt number place (set places i it)
  at-set place i [] it own at = at
  at-set place zero (first ∷ rest) it own at =
      (subst (λ (n : ℕ). IfSome it (IsOfPlace number n)) (omega arith) own, at.1)
  at-set place (suc i) (first ∷ rest) it own at = (
    at.0,
    at-set (suc place) i rest it
        (subst (λ (n : ℕ). IfSome it (IsOfPlace number n)) (omega arith) own) at.1,
  )

  -- what is at a place has its number
  pub at-there : (place i : ℕ) (places : List Place) (other : Place) (there : LatchedNow V)
      → AreAt number place places → i < length places → get_or places i other ≡ Some there
      → IsOfPlace number (place + i) there
  at-there place i [] other there at near is = absurd (omega (arith, near))
  at-there place zero (first ∷ rest) other there at near is =
      subst (λ (n : ℕ). IsOfPlace number n there) (omega arith)
      (subst (λ (it : Place). IfSome it (IsOfPlace number place)) is at.0)
  at-there place (suc i) (first ∷ rest) other there at near is =
      subst (λ (n : ℕ). IsOfPlace number n there) (omega arith)
      (at-there (suc place) i rest other there at.1 (omega (arith, near)) is)

  -- a volume is put at its place
  pub put-one : (count i : ℕ) (places : List Place) (it : LatchedNow V) → number it.volume ≡ i
      → ArePut number count places → ArePut number count (set (set places i None) i (Some it))
  put-one count i places it own put = record {
    many = length-set (set places i None) i (Some it) ∙ length-set places i None ∙ put.many;
    placed = at-set 0 i (set places i None) (Some it) (omega (arith, own))
        (at-set 0 i places None tt put.placed);
  }

  pub taken-one : (i : ℕ) (places : List Place) (other : Place) (it : LatchedNow V)
      → i < length places → get_or places i other ≡ None
      → taken (set (set places i None) i (Some it)) ≡ taken places + 1
  taken-one i places other it near free =
      omega (
        arith,
        sum_by-set one places i None other near,
        ap one free,
        sum_by-set one (set places i None) i (Some it) other
            (omega (arith, length-set places i None, near)),
        ap one (get_or-set_same places i None other near),
      )

  -- where as many are taken as there are, each is
  pub whole : (place : ℕ) (places : List Place) → AreAt number place places
      → taken places ≡ length places → AreWhole number place places
  whole place [] at all = tt
  whole place (None ∷ rest) at all =
      let most = count_by-le-length (λ (it : Place). is_some it) rest in
      absurd (omega (arith, all, sum_by-cons one None rest, most))
  whole place (Some it ∷ rest) at all =
      (at.0, whole (suc place) rest at.1 (omega (arith, all, sum_by-cons one (Some it) rest)))
