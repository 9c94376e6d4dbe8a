-- The first place of a list that passes a test.
use Rattle.std.proofs.Common.{◌≡◌, ◌<◌, ◌≤◌, ◌+◌, ℕ, Bool, true, false, cond, not, List, [], ◌∷◌}
use Rattle.std.proofs.Common.{Some, None, refl, sym, ap, ◌∙◌, arith, length, map, get_or}
use Rattle.std.proofs.Common.{nat_lt}
use Rattle.std.specs.List.{position, position_or_len}
use Rattle.std.proofs.lemmas.Bool.Decides.{nat_tests}
use Rattle.std.proofs.lemmas.List.Sums.{position_or_len_is}

lt-true : (i n : ℕ) → i < n → nat_lt i n ≡ true
lt-true i n below = grind (arith, nat_tests)

lt-false : (i n : ℕ) → n ≤ i → nat_lt i n ≡ false
lt-false i n past = grind (arith, nat_tests)

module _ {X : Type 0} (p : X → Bool) where
  pub position-found : (xs : List X) (i : ℕ) (d : X) → i < length xs
      → ((k : ℕ) → k < i → p (get_or xs k d) ≡ false) → p (get_or xs i d) ≡ true
      → Some i ≡ position p xs
  position-found xs i d below before here =
      sym (ap (λ (n : ℕ). cond (nat_lt n (length xs)) (Some n) None)
      (position_or_len_is p xs i d (omega (arith, below)) before (λ less. here))
      ∙ ap (λ (test : Bool). cond test (Some i) None) (lt-true i (length xs) below))

  pub position-none : (xs : List X)
      → ((k : ℕ) (d : X) → k < length xs → p (get_or xs k d) ≡ false)
      → None ≡ position p xs
  position-none [] none = refl
  position-none (x ∷ xs) none =
      sym (ap (λ (n : ℕ). cond (nat_lt n (length (x ∷ xs))) (Some n) None)
      (position_or_len_is p (x ∷ xs) (length (x ∷ xs)) x (omega arith)
      (λ k less. none k x less) (λ less. absurd (omega (arith, less))))
      ∙ ap (λ (test : Bool). cond test (Some (length (x ∷ xs))) None)
      (lt-false (length (x ∷ xs)) (length (x ∷ xs)) (omega arith)))

  -- what is found is the first place, and a place of the list
  pub position-first : (xs : List X) (i : ℕ) → position p xs ≡ Some i
      → (i ≡ position_or_len p xs) × (i < length xs)
  position-first xs i is = by_test (nat_lt (position_or_len p xs) (length xs)) refl is
    where
      by_test : (test : Bool) → nat_lt (position_or_len p xs) (length xs) ≡ test
          → cond test (Some (position_or_len p xs)) None ≡ Some i
          → (i ≡ position_or_len p xs) × (i < length xs)
      by_test true here found =
          let same : position_or_len p xs ≡ i = cc in
          (sym same, less here same)
        where
          less : nat_lt (position_or_len p xs) (length xs) ≡ true → position_or_len p xs ≡ i
              → i < length xs
          less here same = grind (arith, nat_tests)
      by_test false here found = absurd cc

  pub position-past : (xs : List X) → position p xs ≡ None → length xs ≤ position_or_len p xs
  position-past xs is = by_test (nat_lt (position_or_len p xs) (length xs)) refl is
    where
      by_test : (test : Bool) → nat_lt (position_or_len p xs) (length xs) ≡ test
          → cond test (Some (position_or_len p xs)) None ≡ None
          → length xs ≤ position_or_len p xs
      by_test true here found = absurd cc
      by_test false here found = grind (arith, nat_tests)

-- it is the first of the mapped list that passes
pub position-map : {X Y : Type 0} (p : Y → Bool) (f : X → Y) (xs : List X)
    → position_or_len p (map f xs) ≡ position_or_len (λ x. p (f x)) xs
position-map p f [] = refl
position-map p f (x ∷ xs) = ap (λ (n : ℕ). cond (not (p (f x))) (1 + n) 0) (position-map p f xs)
