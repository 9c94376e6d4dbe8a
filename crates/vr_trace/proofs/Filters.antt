-- Lists of which some elements are left out.
use Rattle.std.proofs.Common.{◌≡◌, Bool, true, false, cond, List, [], ◌∷◌, map, refl, sym, ap, ◌∙◌}
use Rattle.std.specs.List.{filter}

-- of a choice
pub filter_cond : {X : Type 0} (p : X → Bool) (b : Bool) (x : X) (r : List X)
    → filter p (cond b (x ∷ r) r)
    ≡ cond b (cond (p x) (x ∷ filter p r) (filter p r)) (filter p r)
filter_cond p true x r = refl
filter_cond p false x r = refl

swapped : {X : Type 0} (b c : Bool) (x : X) (r : List X)
    → cond b (cond c (x ∷ r) r) r ≡ cond c (cond b (x ∷ r) r) r
swapped true true x r = refl
swapped true false x r = refl
swapped false true x r = refl
swapped false false x r = refl

-- in either order
pub filters : {X : Type 0} (p q : X → Bool) (xs : List X)
    → filter p (filter q xs) ≡ filter q (filter p xs)
filters p q [] = refl
filters p q (x ∷ xs) =
    filter_cond p (q x) x (filter q xs)
    ∙ ap (λ r. cond (q x) (cond (p x) (x ∷ r) r) r) (filters p q xs)
    ∙ swapped (q x) (p x) x (filter q (filter p xs))
    ∙ sym (filter_cond q (p x) x (filter p xs))

map_cond : {X Y : Type 0} (f : X → Y) (b : Bool) (x : X) (r : List X)
    → map f (cond b (x ∷ r) r) ≡ cond b (f x ∷ map f r) (map f r)
map_cond f true x r = refl
map_cond f false x r = refl

-- by what another list gives
pub filter_mapped : {X Y : Type 0} (p : Y → Bool) (f : X → Y) (xs : List X)
    → filter p (map f xs) ≡ map f (filter (λ x. p (f x)) xs)
filter_mapped p f [] = refl
filter_mapped p f (x ∷ xs) =
    ap (λ r. cond (p (f x)) (f x ∷ r) r) (filter_mapped p f xs)
    ∙ sym (map_cond f (p (f x)) x (filter (λ x. p (f x)) xs))
