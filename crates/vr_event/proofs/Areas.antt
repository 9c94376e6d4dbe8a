-- The areas of a state are those of the volume that it is of, whatever their order.
use Rattle.std.proofs.Common.{◌≡◌, ◌∙◌, ◌+◌, ◌<◌, ◌==◌, ◌||◌, ℕ, Bool, true, false, not}
use Rattle.std.proofs.Common.{suc, zero, List, [], ◌∷◌, ◌++◌, Option, Some, None, refl, sym, ap, subst}
use Rattle.std.proofs.Common.{arith, length}
use Rattle.std.specs.Prelude.{slice_index_or, slice_set}
use Rattle.std.specs.List.{list_any}
use Rattle.std.specs.List.Sorted.{IsPermutation}
use Rattle.std.specs.Option.{is_none}
use Rattle.std.proofs.lemmas.Bool.Decides.{nat_tests}
use Rattle.std.proofs.lemmas.List.Quantifiers.{position-Some}
use Rattle.std.proofs.lemmas.List.Sorted.{IsPermutation-append_left, IsPermutation-cons}
use Rattle.std.proofs.lemmas.List.Sorted.{IsPermutation-sym, IsPermutation-to_front}
use Rattle.std.proofs.lemmas.List.Sorted.{IsPermutation-trans, list_any-IsPermutation}
use Rattle.vr_types.specs.Geometry.{area_count}
use Rattle.vr_types.specs.Space.{least_free}
use Rattle.vr_types.specs.declared.geometry.Geometry.{Geometry}
use Rattle.vr_types.specs.declared.unit.PartNo.{PartNo}
use Rattle.vr_catalog.specs.declared.entry.CatEntry.{CatEntry}
use Rattle.vr_history.specs.State.{Owned, State}
use Rattle.vr_history.specs.Step.{IsLeastFree, is_owned}
use Rattle.vr_event.specs.Opening.{owned_from, owned_in}
use Rattle.vr_event.specs.Volume.{OwnLaid}

-- ---- as long as none is taken

pub owned-same : (was now : List (Option PartNo)) (old new : List Owned) → now ≡ was → new ≡ old
    → IsPermutation (owned_in was) old → IsPermutation (owned_in now) new
owned-same was now old new space owned is =
    subst (λ (areas : List (Option PartNo)). IsPermutation (owned_in areas) new) (sym space)
    (subst (IsPermutation (owned_in was)) (sym owned) is)

pub unlaid-same : (geometry to : Geometry) (entries entries' : List CatEntry)
    (was now : List (Option PartNo)) → to ≡ geometry → entries' ≡ entries → now ≡ was
    → OwnLaid geometry entries was → OwnLaid to entries' now
unlaid-same geometry to entries entries' was now geometries catalogs space is =
    subst (λ (areas : List (Option PartNo)). OwnLaid to entries' areas) (sym space)
    (subst (λ (catalog : List CatEntry). OwnLaid to catalog was) (sym catalogs)
    (subst (λ (g : Geometry). OwnLaid g entries was) (sym geometries) is))

-- ---- one that is taken

-- it is one more
owned-more : (from : ℕ) (space : List (Option PartNo)) (area : ℕ) (part : PartNo)
    → area < length space → is_none (slice_index_or space area None) ≡ true
    → IsPermutation (owned_from from (slice_set space area (Some part)))
    (owned_from from space ++ record { area = from + area; part = part.0 } ∷ [])
owned-more from [] area part below free = absurd (omega (arith, below))
owned-more from (None ∷ space) zero part below free =
    let rest = owned_from (from + 1) space in
    let one : Owned = record { area = from + 0; part = part.0 } in
    let same : from + 0 ≡ from = omega arith in
    subst (λ (n : ℕ). IsPermutation (record { area = n; part = part.0 } ∷ rest) (rest ++ one ∷ []))
    same (IsPermutation-sym (rest ++ one ∷ []) (one ∷ rest) (IsPermutation-to_front rest one))
owned-more from (Some owner ∷ space) zero part below free = absurd (cc)
owned-more from (None ∷ space) (suc area) part below free =
    let same : (from + 1) + area ≡ from + suc area = omega arith in
    subst (λ (n : ℕ). IsPermutation (owned_from (from + 1) (slice_set space area (Some part)))
    (owned_from (from + 1) space ++ record { area = n; part = part.0 } ∷ [])) same
    (owned-more (from + 1) space area part (omega (arith, below)) free)
owned-more from (Some owner ∷ space) (suc area) part below free =
    let same : (from + 1) + area ≡ from + suc area = omega arith in
    IsPermutation-cons (record { area = from; part = owner.0 })
    (owned_from (from + 1) (slice_set space area (Some part)))
    (owned_from (from + 1) space ++ record { area = from + suc area; part = part.0 } ∷ [])
    (subst (λ (n : ℕ). IsPermutation (owned_from (from + 1) (slice_set space area (Some part)))
    (owned_from (from + 1) space ++ record { area = n; part = part.0 } ∷ [])) same
    (owned-more (from + 1) space area part (omega (arith, below)) free))

-- which areas are owned
abbrev is-at : ℕ → Owned → Bool
is-at n owned = owned.area == n

none-below : (from : ℕ) (space : List (Option PartNo)) (n : ℕ) → n < from
    → list_any (is-at n) (owned_from from space) ≡ false
none-below from [] n below = refl
none-below from (None ∷ space) n below =
    none-below (from + 1) space n (omega (arith, below))
none-below from (Some owner ∷ space) n below =
    grind (arith, nat_tests, below, none-below (from + 1) space n (omega (arith, below)))

owned-at : (from : ℕ) (space : List (Option PartNo)) (n : ℕ)
    → list_any (is-at (from + n)) (owned_from from space)
    ≡ not (is_none (slice_index_or space n None))
owned-at from [] n = refl
owned-at from (None ∷ space) zero =
    let same : from + 0 ≡ from = omega arith in
    none-below (from + 1) space (from + 0) (omega (arith, same))
owned-at from (Some owner ∷ space) zero =
    let same : from + 0 ≡ from = omega arith in grind (arith, nat_tests, same)
owned-at from (None ∷ space) (suc n) =
    let same : (from + 1) + n ≡ from + suc n = omega arith in
    subst (λ (m : ℕ). list_any (is-at m) (owned_from (from + 1) space)
    ≡ not (is_none (slice_index_or space n None))) same (owned-at (from + 1) space n)
owned-at from (Some owner ∷ space) (suc n) =
    let same : (from + 1) + n ≡ from + suc n = omega arith in
    let differs : (from == from + suc n) ≡ false = grind (arith, nat_tests) in
    ap (λ (b : Bool). b || list_any (is-at (from + suc n)) (owned_from (from + 1) space)) differs
    ∙ subst (λ (m : ℕ). list_any (is-at m) (owned_from (from + 1) space)
    ≡ not (is_none (slice_index_or space n None))) same (owned-at (from + 1) space n)

module _ (space : List (Option PartNo)) (state : State)
    (is : IsPermutation (owned_in space) state.owned) where
  owned-is : (n : ℕ) → is_owned state n ≡ not (is_none (slice_index_or space n None))
  owned-is n =
      let same : 0 + n ≡ n = omega arith in
      sym (list_any-IsPermutation (is-at n) (owned_in space) state.owned is)
      ∙ subst (λ (m : ℕ). list_any (is-at m) (owned_in space)
      ≡ not (is_none (slice_index_or space n None))) same (owned-at 0 space n)

  -- the least free one is so by the state
  pub least-owned : (geometry : Geometry) (area : ℕ) → length space ≡ area_count geometry
      → least_free space ≡ Some area → IsLeastFree geometry state area
  least-owned geometry area count least =
      let at = position-Some is_none space area None least in
      record {
        below = subst (λ (n : ℕ). area < n) count at.0;
        free = owned-is area ∙ ap not at.1;
        lower_owned = λ lower under. owned-is lower ∙ ap not (at.2 lower under);
      }

  -- and with it taken the areas are those of the state after it
  pub owned-taken : (area : ℕ) (part : PartNo) → least_free space ≡ Some area
      → IsPermutation (owned_in (slice_set space area (Some part)))
      (state.owned ++ record { area = area; part = part.0 } ∷ [])
  owned-taken area part least =
      let at = position-Some is_none space area None least in
      let one : Owned = record { area = area; part = part.0 } in
      let same : 0 + area ≡ area = omega arith in
      IsPermutation-trans (owned_in (slice_set space area (Some part)))
      (owned_in space ++ one ∷ []) (state.owned ++ one ∷ [])
      (subst (λ (n : ℕ). IsPermutation (owned_in (slice_set space area (Some part)))
      (owned_in space ++ record { area = n; part = part.0 } ∷ [])) same
      (owned-more 0 space area part at.0 at.1))
      (IsPermutation-append_left (one ∷ []) (owned_in space) state.owned is)
