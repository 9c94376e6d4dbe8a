-- The least free area of a volume, given to a part that owned none: which blocks are the part's then,
-- and that the areas are as before once it is taken back.
use Rattle.std.proofs.Common.{◌≡◌, ◌≢◌, ◌⊎◌, inl, inr, ◌<◌, ◌+◌, ◌-◌, ◌/◌, ◌∷◌, ℕ, Bool}
use Rattle.std.proofs.Common.{true, false, cond, List, [], Option, Some, None, refl, sym, ap, ◌∙◌}
use Rattle.std.proofs.Common.{arith, get_or, length, set, suc, zero}
use Rattle.std.specs.Prelude.{filter, is_none, nat_le}
use Rattle.std.specs.Option.{option_map}
use Rattle.std.proofs.lemmas.Bool.{true≢false}
use Rattle.std.proofs.lemmas.Bool.Decides.{Decides-eqb, eqb_tells}
use Rattle.std.proofs.lemmas.List.{get_or-set_other, get_or-set_same, map-set, set-get_or}
use Rattle.std.proofs.lemmas.List.Quantifiers.{position-Some}
use Rattle.vr_types.specs.Space.{freed, is_owner, least_free, released}
use Rattle.vr_types.specs.declared.geometry.Geometry.{Geometry}
use Rattle.vr_types.specs.declared.unit.PartNo.{PartNo}
use Rattle.vr_space.specs.Part.{owned_count}
use Rattle.vr_attach.specs.Owning.{owner_of}
use Rattle.vr_volume.specs.Defining.{IsGivenTo}
use Rattle.vr_store.proofs.Claims.{HasClaimed, has-claimed}

some-none : {X : Type 0} {x : X} → Some x ≡ None → ⊥
some-none same = cc

some-same : {X : Type 0} {x y : X} → Some x ≡ Some y → x ≡ y
some-same same = cc

-- what the owner of the area at a place among them makes of a block of it
abbrev owner_by : Bool → Option PartNo → Option ℕ
owner_by before owner = cond before None (option_map (λ (part : PartNo). part.0) owner)

-- ---- a part without areas

module _ (part : PartNo) where
  none-one : (owner : Option PartNo) (areas : List (Option PartNo))
      → owned_count part (owner ∷ areas) ≡ 0
      → (is_owner part owner ≡ false) × (owned_count part areas ≡ 0)
  none-one owner areas none = by_test (is_owner part owner) refl none
    where
      by_test : (test : Bool) → is_owner part owner ≡ test
          → length (cond test (owner ∷ filter (is_owner part) areas)
          (filter (is_owner part) areas)) ≡ 0
          → (is_owner part owner ≡ false) × (owned_count part areas ≡ 0)
      by_test true is some = absurd (omega (arith, some))
      by_test false is some = (is, some)

  -- frees none,
  pub freed-none : (areas : List (Option PartNo)) → owned_count part areas ≡ 0
      → released part areas ≡ areas
  freed-none [] none = refl
  freed-none (owner ∷ areas) none =
      let both = none-one owner areas none in
      ap (λ (test : Bool). cond test None owner ∷ released part areas) both.0
      ∙ ap (λ (rest : List (Option PartNo)). owner ∷ rest) (freed-none areas both.1)

  -- and is the owner of none.
  not-owner : (areas : List (Option PartNo)) (i : ℕ) → owned_count part areas ≡ 0
      → is_owner part (get_or areas i None) ≡ false
  not-owner [] i none = refl
  not-owner (owner ∷ areas) zero none = (none-one owner areas none).0
  not-owner (owner ∷ areas) (suc i) none = not-owner areas i (none-one owner areas none).1

  -- so no block is its own
  nothing-owned : (before : Bool) (owner : Option PartNo) → is_owner part owner ≡ false
      → owner_by before owner ≢ Some part.0
  nothing-owned true owner none is = some-none (sym is)
  nothing-owned false None none is = some-none (sym is)
  nothing-owned false (Some other) none is =
      true≢false (sym ((Decides-eqb other.0 part.0).1 (some-same is)) ∙ none)

-- ---- once it got the least free area

module _ (part : PartNo) (areas : List (Option PartNo)) (area : ℕ)
    (least : least_free areas ≡ Some area) (none : owned_count part areas ≡ 0) where
  -- the areas then
  abbrev pub given : List (Option PartNo)
  given = set areas area (Some part)

  pub claimed : HasClaimed part areas given
  claimed = has-claimed part areas given (area, least, refl)

  pub there : area < length areas
  there = (position-Some is_none areas area None least).0

  pub alone : owned_count part given ≡ 1
  alone = claimed.mine ∙ ap (λ (n : ℕ). n + 1) none

  none-is : (owner : Option PartNo) → is_none owner ≡ true → owner ≡ None
  none-is None is = refl
  none-is (Some other) is = absurd (true≢false (sym is))

  was-free : get_or areas area None ≡ None
  was-free = none-is (get_or areas area None) (position-Some is_none areas area None least).1

  -- they aren't what they were
  pub given-differs : given ≢ areas
  given-differs same = some-none (sym (get_or-set_same areas area (Some part) None there)
      ∙ ap (λ (owners : List (Option PartNo)). get_or owners area None) same ∙ was-free)

  -- taken back, they are as before
  pub back : released part given ≡ areas
  back = map-set (freed part) areas area (Some part)
      ∙ ap (λ (owner : Option PartNo). set (released part areas) area owner)
      (ap (λ (test : Bool). cond test None (Some part)) ((Decides-eqb part.0 part.0).1 refl)
      ∙ sym was-free)
      ∙ ap (λ (rest : List (Option PartNo)). set rest area (get_or areas area None))
      (freed-none part areas none)
      ∙ set-get_or areas area None

  -- ---- its blocks

  module _ (geometry : Geometry) (n : ℕ) where
    abbrev at : ℕ
    at = (n - 1 - geometry.log) / (geometry.area + 1)

    abbrev before : Bool
    before = nat_le n geometry.log

    nobody : (test : Bool) → owner_by test None ≡ None
    nobody true = refl
    nobody false = refl

    -- a block of the area was nobody's, and each other has the owner that it had
    either : (owner_of geometry areas n ≡ None) ⊎ (owner_of geometry given n
        ≡ owner_of geometry areas n)
    either = elim (eqb_tells at area) [
      | inl same ↦ inl (ap (λ (a : ℕ). owner_by before (get_or areas a None)) same.1
          ∙ ap (owner_by before) was-free ∙ nobody before)
      | inr differ ↦ inr (ap (owner_by before)
          (get_or-set_other areas area at (Some part) None differ.1))
    ]

    -- The part's blocks were nobody's.
    pub were-free : owner_of geometry given n ≡ Some part.0 → owner_of geometry areas n ≡ None
    were-free is = elim either [
      | inl free ↦ free
      | inr same ↦ absurd (nothing-owned part before (get_or areas at None)
          (not-owner part areas at none) (sym same ∙ is))
    ]

    kept-owner : (other : ℕ) → owner_of geometry areas n ≡ Some other
        → owner_of geometry given n ≡ Some other
    kept-owner other is = elim either [
      | inl free ↦ absurd (some-none (sym is ∙ free))
      | inr same ↦ same ∙ is
    ]

    -- A block is that part's, or has the owner that it had.
    more-owner : (other : ℕ) → owner_of geometry given n ≡ Some other
        → (owner_of geometry areas n ≡ Some other)
        ⊎ ((other ≡ part.0) × (owner_of geometry areas n ≡ None))
    more-owner other is = elim (eqb_tells at area) [
      | inl same ↦ inr (
        whose before (sym is
            ∙ ap (λ (a : ℕ). owner_by before (get_or given a None)) same.1
            ∙ ap (owner_by before) (get_or-set_same areas area (Some part) None there)),
        ap (λ (a : ℕ). owner_by before (get_or areas a None)) same.1
            ∙ ap (owner_by before) was-free ∙ nobody before,
      )
      | inr differ ↦ inl (sym (ap (owner_by before)
          (get_or-set_other areas area at (Some part) None differ.1)) ∙ is)
    ]
      where
        whose : (test : Bool) → Some other ≡ owner_by test (Some part) → other ≡ part.0
        whose true same = absurd (some-none same)
        whose false same = some-same same

  pub given-to : (geometry : Geometry)
      → IsGivenTo part.0 (owner_of geometry areas) (owner_of geometry given)
  given-to geometry = record {
    kept = λ n other is. kept-owner geometry n other is;
    more = λ n other is. more-owner geometry n other is;
  }
