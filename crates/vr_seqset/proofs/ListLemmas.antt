-- What holds of all elements of two lists holds of all elements of each.
use Rattle.std.proofs.Common.{List, ◌++◌, length, All, refl, subst}
use Rattle.std.proofs.lemmas.List.{take_at, drop_at}
use Rattle.std.proofs.lemmas.List.Elements.{All-take, All-drop}

pub All-left : {X : Type 0} (P : X → Type 0) (xs ys : List X) → All P (xs ++ ys) → All P xs
All-left P xs ys both = subst (λ (zs : List _). All P zs) (take_at xs ys (length xs) refl)
    (All-take P (length xs) (xs ++ ys) both)

pub All-right : {X : Type 0} (P : X → Type 0) (xs ys : List X) → All P (xs ++ ys) → All P ys
All-right P xs ys both = subst (λ (zs : List _). All P zs) (drop_at xs ys (length xs) refl)
    (All-drop P (length xs) (xs ++ ys) both)
