-- What a list contains, mapped and by a test.
use Rattle.std.proofs.Common.{◌≡◌, ◌∙◌, ◌<◌, ℕ, zero, suc, Bool, true, List, [], ◌∷◌, ap}
use Rattle.std.proofs.Common.{arith, get_or, length, map, refl, subst}
use Rattle.std.specs.List.{filter}
use Rattle.std.specs.Prelude.{Contains}
use Rattle.std.proofs.lemmas.List.{get_or-map, length-map}
use Rattle.std.proofs.lemmas.List.Elements.{All-contains, All-contains_itself, All-filter}
use Rattle.std.proofs.lemmas.List.Elements.{Contains-append_right}
use Rattle.vr_worker.proofs.Laters.{one-kept}

-- f of what a list contains
pub contains-map : {X Y : Type 0} (f : X → Y) (xs : List X) (x : X) → Contains xs x
    → Contains (map f xs) (f x)
contains-map f xs x (k, near, at) = (
  k,
  omega (arith, near, length-map xs f),
  get_or-map f xs k x (f x) near ∙ ap f at,
)

-- what is mapped is f of an element
from-place : {X Y : Type 0} (f : X → Y) (xs : List X) (y : Y) (k : ℕ) → k < length (map f xs)
    → get_or (map f xs) k y ≡ y → (x : X) × Contains xs x × (f x ≡ y)
from-place f [] y k near at = absurd (omega (arith, near))
from-place f (x ∷ xs) y zero near at = (x, (0, omega arith, refl), at)
from-place f (x ∷ xs) y (suc k) near at =
    let it = from-place f xs y k (omega (arith, near)) at in
    (it.0, Contains-append_right (x ∷ []) xs it.0 it.1, it.2)

pub map-contains : {X Y : Type 0} (f : X → Y) (xs : List X) (y : Y) → Contains (map f xs) y
    → (x : X) × Contains xs x × (f x ≡ y)
map-contains f xs y has = from-place f xs y has.0 has.1 has.2

-- what a test keeps of a list is in it
pub kept-contains : {X : Type 0} (p : X → Bool) (xs : List X) (x : X) → Contains (filter p xs) x
    → Contains xs x
kept-contains p xs x has = All-contains (Contains xs) (filter p xs) x
    (All-filter p (Contains xs) xs (All-contains_itself xs)) has

-- and it keeps what passes
pub contains-kept : {X : Type 0} (p : X → Bool) (xs : List X) (x : X) → Contains xs x
    → p x ≡ true → Contains (filter p xs) x
contains-kept p xs x has passes = subst (Contains (filter p xs)) has.2
    (one-kept p (Contains (filter p xs)) xs (All-contains_itself (filter p xs)) has.0 x has.1
    (ap p has.2 ∙ passes))
