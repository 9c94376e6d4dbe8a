-- The part on the blocks of a list, and who owns the two areas once they are marked.
use Rattle.std.specs.Prelude.{◌≡◌, ℕ, ◌+◌, Some, set}
use Rattle.std.proofs.Common.{◌⊎◌, inl, inr, refl, sym, ap, subst, arith}
use Rattle.std.proofs.lemmas.Bool.{cases_lt}
use Rattle.vr_types.specs.Space.{all_free}
use Rattle.vr_types.specs.declared.geometry.Geometry.{Geometry}
use Rattle.vr_space.specs.Part.{NumberedShape}
use Rattle.vr_space.specs.Rosters.{IsNumbered, Numbered}
use Rattle.vr_part_cases.specs.TheParts.{AreOwners, IsListed, other_number, the_geometry}
use Rattle.vr_part_cases.specs.TheParts.{the_number}

-- a part of that volume is on them
pub on_list : (part : Numbered) → IsNumbered part → part.geometry ≡ the_geometry
    → IsListed (NumberedShape part)
on_list part is same =
    let blocks : part.geometry.blocks ≡ 8 = ap (λ (shape : Geometry). shape.blocks) same in
    record {
      part_is = is;
      blocks = omega (arith, blocks);
      size = sym (ap (λ (shape : Geometry). shape.size) same);
    }

zero_alone : AreOwners 0 (set (all_free 2) 0 (Some the_number))
zero_alone = record { count = refl; first_is = refl; alone = refl }

one_alone : AreOwners 1 (set (all_free 2) 1 (Some the_number))
one_alone = record { count = refl; first_is = refl; alone = refl }

-- one area is the part's, and the other one nobody's
pub are_alone : (first second : ℕ) → first + second ≡ 1
    → AreOwners first (set (all_free 2) first (Some the_number))
are_alone first second both = elim (cases_lt first 1) [
  | inl less ↦
      let is : 0 ≡ first = omega (arith, less) in
      subst (λ (n : ℕ). AreOwners n (set (all_free 2) n (Some the_number))) is zero_alone
  | inr more ↦
      let is : 1 ≡ first = omega (arith, more, both) in
      subst (λ (n : ℕ). AreOwners n (set (all_free 2) n (Some the_number))) is one_alone
]

zero_beside : AreOwners 0 (set (set (all_free 2) 1 (Some other_number)) 0 (Some the_number))
zero_beside = record { count = refl; first_is = refl; alone = refl }

one_beside : AreOwners 1 (set (set (all_free 2) 0 (Some other_number)) 1 (Some the_number))
one_beside = record { count = refl; first_is = refl; alone = refl }

-- or another part's
pub are_beside : (first second : ℕ) → first + second ≡ 1
    → AreOwners first (set (set (all_free 2) second (Some other_number)) first (Some the_number))
are_beside first second both = elim (cases_lt first 1) [
  | inl less ↦
      let here : 0 ≡ first = omega (arith, less) in
      let there : 1 ≡ second = omega (arith, less, both) in
      subst (λ (n : ℕ). AreOwners n
      (set (set (all_free 2) second (Some other_number)) n (Some the_number))) here
      (subst (λ (n : ℕ). AreOwners 0
      (set (set (all_free 2) n (Some other_number)) 0 (Some the_number))) there zero_beside)
  | inr more ↦
      let here : 1 ≡ first = omega (arith, more, both) in
      let there : 0 ≡ second = omega (arith, more, both) in
      subst (λ (n : ℕ). AreOwners n
      (set (set (all_free 2) second (Some other_number)) n (Some the_number))) here
      (subst (λ (n : ℕ). AreOwners 1
      (set (set (all_free 2) n (Some other_number)) 1 (Some the_number))) there one_beside)
]
