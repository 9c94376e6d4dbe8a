-- Areas that are taken one after another: how many are free then, and how many a part owns; and
-- which are marked.
use Rattle.std.proofs.Common.{◌≡◌, ◌≢◌, ◌⊎◌, inl, inr, ⊎_elim, ◌<◌, ◌≤◌, ◌+◌, ◌++◌, ℕ, zero, suc}
use Rattle.std.proofs.Common.{Bool}
use Rattle.std.proofs.Common.{true, false, IsTrue, List, [], ◌∷◌, length, Option, Some, None}
use Rattle.std.proofs.Common.{get_or}
use Rattle.std.proofs.Common.{get_or-set_same, refl, sym, ap, subst, ◌∙◌, arith, true≢false}
use Rattle.std.specs.Prelude.{Contains, cond, filter, nat_lt, slice_set}
use Rattle.std.proofs.lemmas.Bool.{ltb-true}
use Rattle.std.proofs.lemmas.Bool.Decides.{Decides-eqb, eqb_tells}
use Rattle.std.proofs.lemmas.List.{get_or-set_other, length_push}
use Rattle.std.proofs.lemmas.List.Elements.{Contains-append_left, Contains-push}
use Rattle.std.proofs.lemmas.List.Elements.{Contains-push_cases}
use Rattle.std.proofs.lemmas.Map.Made.{Contains-tail}
use Rattle.vr_types.specs.Space.{free_count, is_owner}
use Rattle.vr_types.specs.declared.unit.PartNo.{PartNo}
use Rattle.vr_space.specs.Part.{owned_count}
use Rattle.vr_attach.specs.Marked.{AreMarked, IsTakenIn}

-- ---- how many are free

none-some : {X : Type 0} (x : X) → None ≡ Some x → ⊥
none-some x same = cc

-- one less, where the area was free
pub free-fewer : (areas : List (Option PartNo)) (area : ℕ) (part : PartNo) → area < length areas
    → get_or areas area None ≡ None
    → free_count (slice_set areas area (Some part)) + 1 ≡ free_count areas
free-fewer [] area part below free = absurd (omega (arith, below))
free-fewer (None ∷ areas) zero part below free = omega arith
free-fewer (Some owner ∷ areas) zero part below free = absurd (none-some owner (sym free))
free-fewer (None ∷ areas) (suc area) part below free =
    omega (arith, free-fewer areas area part (omega (arith, below)) free)
free-fewer (Some owner ∷ areas) (suc area) part below free =
    free-fewer areas area part (omega (arith, below)) free

-- and as many, where it had an owner
pub free-same : (areas : List (Option PartNo)) (area : ℕ) (part owner : PartNo)
    → get_or areas area None ≡ Some owner
    → free_count (slice_set areas area (Some part)) ≡ free_count areas
free-same [] area part owner owned = absurd (none-some owner owned)
free-same (None ∷ areas) zero part owner owned = absurd (none-some owner owned)
free-same (Some other ∷ areas) zero part owner owned = refl
free-same (None ∷ areas) (suc area) part owner owned =
    omega (arith, free-same areas area part owner owned)
free-same (Some other ∷ areas) (suc area) part owner owned =
    free-same areas area part owner owned

-- so by how many are free it is told whether it was
module _ (areas : List (Option PartNo)) (area : ℕ) (part : PartNo) (now before : ℕ)
    (inside : area < length areas) (now-is : now ≡ free_count (slice_set areas area (Some part)))
    (before-is : before ≡ free_count areas) where
  by_owner : (owner : Option PartNo) → get_or areas area None ≡ owner
      → IsTrue (nat_lt now before) → get_or areas area None ≡ None
  by_owner None is less = is
  by_owner (Some owner) is less = absurd (omega (
    arith,
    ltb-true now before less,
    free-same areas area part owner is,
    now-is,
    before-is,
  ))

  pub was-free : IsTrue (nat_lt now before) → get_or areas area None ≡ None
  was-free less = by_owner (get_or areas area None) refl less

  pub was-owned : nat_lt now before ≡ false → IsTakenIn areas area
  was-owned same free =
      let fewer = free-fewer areas area part inside free in
      let less : nat_lt now before ≡ true =
      Rattle.std.proofs.lemmas.Bool.lt-ltb now before (omega (arith, fewer, now-is, before-is)) in
      true≢false (sym less ∙ same)

-- ---- how many a part owns

same-part : (part : PartNo) → is_owner part (Some part) ≡ true
same-part part = (Decides-eqb part.0 part.0).1 refl

pub owned-more : (areas : List (Option PartNo)) (area : ℕ) (part : PartNo) → area < length areas
    → get_or areas area None ≡ None
    → owned_count part (slice_set areas area (Some part)) ≡ owned_count part areas + 1
owned-more [] area part below free = absurd (omega (arith, below))
owned-more (None ∷ areas) zero part below free =
    ap (λ (owns : Bool). length (cond owns (Some part ∷ filter (is_owner part) areas)
    (filter (is_owner part) areas))) (same-part part) ∙ omega arith
owned-more (Some owner ∷ areas) zero part below free = absurd (none-some owner (sym free))
owned-more (first ∷ areas) (suc area) part below free =
    by_first (is_owner part first) (owned-more areas area part (omega (arith, below)) free)
  where
    by_first : (owns : Bool)
        → owned_count part (slice_set areas area (Some part)) ≡ owned_count part areas + 1
        → length (cond owns (first ∷ filter (is_owner part) (slice_set areas area (Some part)))
        (filter (is_owner part) (slice_set areas area (Some part))))
        ≡ length (cond owns (first ∷ filter (is_owner part) areas)
        (filter (is_owner part) areas)) + 1
    by_first true more = omega (arith, more)
    by_first false more = more

-- ---- which are marked

contains-or : (areas : List ℕ) (area : ℕ) → Contains areas area ⊎ (Contains areas area → ⊥)
contains-or [] area = inr (λ has. omega (arith, has.1))
contains-or (first ∷ areas) area = ⊎_elim
    (λ same. inl (0, omega arith, same.1))
    (λ differ. ⊎_elim
    (λ has. inl (suc has.0, omega (arith, has.1), has.2))
    (λ none. inr (λ has. none (Contains-tail first areas area differ.1 has)))
    (contains-or areas area)) (eqb_tells first area)

module _ (number : PartNo) (start : ℕ) (areas : List ℕ) (before taken : List (Option PartNo))
    (area : ℕ) (marks : AreMarked number start areas before taken) where
  -- the area that is free is none of those
  free-apart : get_or taken area None ≡ None → Contains areas area → ⊥
  free-apart free has = none-some number (sym free ∙ marks.marked area has)

  pub free-before : get_or taken area None ≡ None → get_or before area None ≡ None
  free-before free = sym (marks.others area (free-apart free)) ∙ free

  -- it wasn't reached before
  pub free-new : get_or taken area None ≡ None → (IsTakenIn before area ⊎ Contains areas area) → ⊥
  free-new free reached =
      ⊎_elim (λ had. had (free-before free)) (λ has. free-apart free has) reached

  -- and what has an owner was
  pub taken-before : IsTakenIn taken area → IsTakenIn before area ⊎ Contains areas area
  taken-before had = ⊎_elim (λ has. inr has)
      (λ none. inl (λ free. had (marks.others area none ∙ free))) (contains-or areas area)

  module _ (inside : area < length taken) (free : get_or taken area None ≡ None) where
    abbrev after : List (Option PartNo)
    after = slice_set taken area (Some number)

    apart : (other : ℕ) → Contains areas other → other ≢ area
    apart other has same = free-apart free (subst (Contains areas) same has)

    pub marks-more : AreMarked number start (areas ++ area ∷ []) before after
    marks-more = record {
      there = Contains-append_left areas (area ∷ []) start marks.there;
      owns = owned-more taken area number inside free ∙ ap (λ (n : ℕ). n + 1) marks.owns
          ∙ sym (length_push areas area);
      marked = λ other has. ⊎_elim
          (λ had.
          get_or-set_other taken area other (Some number) None (apart other had)
          ∙ marks.marked other had)
          (λ same. subst (λ (at : ℕ). get_or after at None ≡ Some number) same
          (get_or-set_same taken area (Some number) None inside))
          (Contains-push_cases areas area other has);
      others = λ other none.
          get_or-set_other taken area other (Some number) None
          (λ same. none (subst (Contains (areas ++ area ∷ [])) (sym same)
          (Contains-push areas area)))
          ∙ marks.others other (λ had. none (Contains-append_left areas (area ∷ []) other had));
      free = λ other has apart-first. ⊎_elim
          (λ had. marks.free other had apart-first)
          (λ same. subst (λ (at : ℕ). get_or before at None ≡ None) same (free-before free))
          (Contains-push_cases areas area other has);
    }

-- the first one is
only-one : (first area : ℕ) → Contains (first ∷ []) area → first ≡ area
only-one first area (zero, below, is) = is
only-one first area (suc k, below, is) = absurd (omega (arith, below))

pub marks-first : (number : PartNo) (start : ℕ) (taken : List (Option PartNo))
    → get_or taken start None ≡ Some number → owned_count number taken ≡ 1
    → AreMarked number start (start ∷ []) taken taken
marks-first number start taken owned alone = record {
  there = (0, omega arith, refl);
  owns = alone;
  marked = λ area has. subst (λ (at : ℕ). get_or taken at None ≡ Some number)
      (only-one start area has) owned;
  others = λ area none. refl;
  free = λ area has apart. absurd (apart (sym (only-one start area has)));
}

-- no more are free than there are
free-most : (areas : List (Option PartNo)) → free_count areas ≤ length areas
free-most [] = omega arith
free-most (None ∷ areas) = omega (arith, free-most areas)
free-most (Some owner ∷ areas) = omega (arith, free-most areas)

-- with an area that has an owner, there is room for the others that are free
pub free-below : (areas : List (Option PartNo)) (area : ℕ) (owner : PartNo)
    → get_or areas area None ≡ Some owner → 1 + free_count areas ≤ length areas
free-below [] area owner owned = absurd (none-some owner owned)
free-below (None ∷ areas) zero owner owned = absurd (none-some owner owned)
free-below (Some other ∷ areas) zero owner owned = omega (arith, free-most areas)
free-below (None ∷ areas) (suc area) owner owned =
    omega (arith, free-below areas area owner owned)
free-below (Some other ∷ areas) (suc area) owner owned =
    omega (arith, free-below areas area owner owned)
