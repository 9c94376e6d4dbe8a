-- The greatest of some numbers, one after another.
use Rattle.std.proofs.Common.{◌≡◌, ℕ, ◌+◌, ◌<◌, max, List, [], ◌∷◌, ◌++◌, length, take, get_or, map}
use Rattle.std.proofs.Common.{refl, sym, ap, ◌∙◌, arith}
use Rattle.std.proofs.lemmas.List.{take_more}
use Rattle.vr_trace.specs.Code.{greatest}

greatest-append : {X : Type 0} (f : X → ℕ) (xs : List X) (x : X)
    → greatest f (xs ++ x ∷ []) ≡ max (greatest f xs) (f x)
greatest-append f [] x = omega arith
greatest-append f (y ∷ ys) x = let rest = greatest-append f ys x in omega arith

-- one more
pub greatest-take : {X : Type 0} (f : X → ℕ) (xs : List X) (i : ℕ) (x : X) → i < length xs
    → x ≡ get_or xs i x → max (greatest f (take i xs)) (f x) ≡ greatest f (take (i + 1) xs)
greatest-take f xs i x inside at =
    let prefix : take (i + 1) xs ≡ take i xs ++ x ∷ [] =
    take_more xs i x inside ∙ ap (λ e. take i xs ++ e ∷ []) (sym at) in
    sym (ap (greatest f) prefix ∙ greatest-append f (take i xs) x)

-- the greatest of what another list gives
pub greatest-map : {X Y : Type 0} (f : Y → ℕ) (g : X → Y) (xs : List X)
    → greatest f (map g xs) ≡ greatest (λ x. f (g x)) xs
greatest-map f g [] = refl
greatest-map f g (x ∷ xs) = ap (λ n. max (f (g x)) n) (greatest-map f g xs)
