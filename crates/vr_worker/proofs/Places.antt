-- Lists, place by place.
use Rattle.std.proofs.Common.{◌≡◌, ◌∙◌, ℕ, ◌+◌, ◌<◌, zero, suc, List, [], ◌∷◌, ◌++◌, All}
use Rattle.std.proofs.Common.{ap, arith, drop, get_or, length, map, subst, sym, take}
use Rattle.std.specs.List.{AllZip}
use Rattle.std.proofs.lemmas.List.{drop_more, get_or-map, get_or_append_left, get_or_at}
use Rattle.std.proofs.lemmas.List.{get_or_push, length-map, length-take-le, length_push}
use mathlib.Core.Logic.{dite}
use native.Mathlib.Decide.{ℕ_discrete}

-- where a loop writes f of each element over it, the element at its place is still the first one
pub not-yet : {X : Type 0} (f : X → X) (xs ys : List X) (i : ℕ) (x : X) → i < length xs
    → ys ≡ map f (take i xs) ++ drop i xs → x ≡ get_or ys i x → x ≡ get_or xs i x
not-yet f xs ys i x near is at = at ∙ ap (λ zs. get_or zs i x) is
    ∙ ap (λ zs. get_or (map f (take i xs) ++ zs) i x) (drop_more xs i x near)
    ∙ get_or_at (map f (take i xs)) (get_or xs i x) (drop (i + 1) xs) x i
    (length-map (take i xs) f ∙ length-take-le i xs (omega arith))

-- what is so of each element and its place is so of one more
pub at-push : {X : Type 0} (P : ℕ → X → Type 0) (xs : List X) (x : X)
    → ((k : ℕ) (d : X) → k < length xs → P k (get_or xs k d)) → P (length xs) x
    → (k : ℕ) (d : X) → k < length (xs ++ x ∷ []) → P k (get_or (xs ++ x ∷ []) k d)
at-push P xs x each last k d near = dite (ℕ_discrete k (length xs))
    (λ same. subst (P k) (sym (get_or_push xs x d k (sym same)))
    (subst (λ n. P n x) (sym same) last))
    (λ apart. let inside : k < length xs = omega (arith, near, length_push xs x, apart) in
    subst (P k) (sym (get_or_append_left xs (x ∷ []) d k inside)) (each k d inside))

-- what is so of each of f's values is so of each element's
pub all-unmapped : {X Y : Type 0} (f : X → Y) (P : Y → Type 0) (xs : List X)
    → All P (map f xs) → All (λ x. P (f x)) xs
all-unmapped f P xs all k d near = subst P (get_or-map f xs k d (f d) near)
    (all k (f d) (omega (arith, near, length-map xs f)))

-- lists of one length, at each place
pub zip-from : {X Y : Type 0} (R : X → Y → Type 0) (xs : List X) (ys : List Y)
    → length xs ≡ length ys
    → ((k : ℕ) (d : X) (e : Y) → k < length xs → R (get_or xs k d) (get_or ys k e))
    → AllZip R xs ys
zip-from R [] [] same each = tt
zip-from R [] (y ∷ ys) same each = absurd (omega (arith, same))
zip-from R (x ∷ xs) [] same each = absurd (omega (arith, same))
zip-from R (x ∷ xs) (y ∷ ys) same each = (
  each zero x y (omega arith),
  zip-from R xs ys (omega (arith, same)) (λ k d e near. each (suc k) d e (omega (arith, near))),
)
