-- What an insertion sort of the definitions makes of a list that is held in another form.
use Rattle.std.proofs.Common.{◌≡◌, Bool, true, false, cond, not, List, [], ◌∷◌, map, refl, sym, ap}
use Rattle.std.proofs.Common.{◌∙◌}
use Rattle.std.specs.Cmp.{IsStrictWeakOrder}
use Rattle.std.specs.List.Sorted.{IsSortedBy, IsStableBy}
use Rattle.vr_trace.proofs.Sorting.{placed, in_rank, sorted_is}

-- an element goes before the first that it comes before
pub record IsInsertion {Y : Type 0} (before : Y → Y → Bool) (entered : Y → List Y → List Y)
    (ordered : List Y → List Y) : Type 0 where
  pub one : (y : Y) → entered y [] ≡ y ∷ []
  pub more : (y z : Y) (zs : List Y)
      → entered y (z ∷ zs) ≡ cond (before y z) (y ∷ z ∷ zs) (z ∷ entered y zs)
  pub none : ordered [] ≡ []
  pub next : (y : Y) (ys : List Y) → ordered (y ∷ ys) ≡ entered y (ordered ys)

not_cond : {Y : Type 0} (b : Bool) (xs ys : List Y) → cond (not b) xs ys ≡ cond b ys xs
not_cond true xs ys = refl
not_cond false xs ys = refl

map_cond : {X Y : Type 0} (view : X → Y) (b : Bool) (xs ys : List X)
    → map view (cond b xs ys) ≡ cond b (map view xs) (map view ys)
map_cond view true xs ys = refl
map_cond view false xs ys = refl

module _ {X Y : Type 0} (lt : X → X → Bool) (view : X → Y) (before : Y → Y → Bool)
    (entered : Y → List Y → List Y) (ordered : List Y → List Y)
    (insertion : IsInsertion before entered ordered)
    (less_is : (x y : X) → lt y x ≡ not (before (view x) (view y))) where
  entered_is : (x : X) (ys : List X) → map view (placed lt x ys) ≡ entered (view x) (map view ys)
  entered_is x [] = sym (insertion.one (view x))
  entered_is x (y ∷ ys) =
      let first = before (view x) (view y) in
      let later = view y ∷ entered (view x) (map view ys) in
      let now = view x ∷ view y ∷ map view ys in
      map_cond view (lt y x) (y ∷ placed lt x ys) (x ∷ y ∷ ys)
      ∙ ap (λ l. cond (lt y x) (view y ∷ l) now) (entered_is x ys)
      ∙ ap (λ b. cond b later now) (less_is x y)
      ∙ not_cond first later now
      ∙ sym (insertion.more (view x) (view y) (map view ys))

  pub ordered_is : (xs : List X) → map view (in_rank lt xs) ≡ ordered (map view xs)
  ordered_is [] = sym insertion.none
  ordered_is (x ∷ xs) = entered_is x (in_rank lt xs)
      ∙ ap (entered (view x)) (ordered_is xs)
      ∙ sym (insertion.next (view x) (map view xs))

  -- what a stable sort leaves
  pub sorted_views : (o : IsStrictWeakOrder lt) (xs ys : List X) → IsSortedBy lt ys
      → IsStableBy lt xs ys → map view ys ≡ ordered (map view xs)
  sorted_views o xs ys sorted stable =
      ap (map view) (sorted_is lt o xs ys sorted stable) ∙ ordered_is xs
