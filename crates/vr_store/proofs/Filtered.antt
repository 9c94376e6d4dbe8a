-- A filter of what a list is seen as.
use Rattle.std.proofs.Common.{◌≡◌, Bool, true, false, List, [], ◌∷◌, ap, cond, filter, map, refl}

module _ {X Y : Type 0} (f : X → Y) (test : Y → Bool) where
  pub filter-seen : (xs : List X) → map f (filter (λ x. test (f x)) xs) ≡ filter test (map f xs)
  filter-seen [] = refl
  filter-seen (x ∷ xs) = by_test (test (f x)) (filter-seen xs)
    where
      by_test : (passes : Bool) → map f (filter (λ x. test (f x)) xs) ≡ filter test (map f xs)
          → map f (cond passes (x ∷ filter (λ x. test (f x)) xs) (filter (λ x. test (f x)) xs))
          ≡ cond passes (f x ∷ filter test (map f xs)) (filter test (map f xs))
      by_test true same = ap (λ (rest : List Y). f x ∷ rest) same
      by_test false same = same
