-- Who owns the areas of a volume of the cases.
use Rattle.std.proofs.Common.{◌≡◌, ◌≤◌, ℕ, zero, suc, refl, arith}
use Rattle.std.specs.Prelude.{set, Some}
use Rattle.vr_types.specs.Space.{all_free}
use Rattle.vr_types.specs.declared.unit.PartNo.{PartNo}
use Rattle.vr_space.specs.Part.{owned_count}
use Rattle.vr_keyed_cases.specs.TheLayout.{the_catalog, the_number}

none_owned : (part : PartNo) (areas : ℕ) → owned_count part (all_free areas) ≡ 0
none_owned part zero = refl
none_owned part (suc areas) = none_owned part areas

-- The part owns one area, where the catalog has the first and the part the second.
pub one_owned : (areas : ℕ) → 2 ≤ areas → owned_count the_number
    (set (set (all_free areas) 0 (Some the_catalog)) 1 (Some the_number)) ≡ 1
one_owned zero some = absurd (omega (arith, some))
one_owned (suc zero) some = absurd (omega (arith, some))
one_owned (suc (suc areas)) some = omega (arith, none_owned the_number areas)
