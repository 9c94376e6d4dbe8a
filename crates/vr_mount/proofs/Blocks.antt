-- Which blocks the areas of a volume have.
use Rattle.std.proofs.Common.{◌≡◌, ℕ, ◌+◌, ◌-◌, ◌*◌, ◌/◌, ◌<◌, ◌≤◌, arith, inl, inr}
use Rattle.std.proofs.lemmas.Bool.{cases_lt}
use Rattle.std.proofs.Math.Nat.{mul-le-mul_right, lt-mul-div-succ, div-mul-le_self}
use Rattle.vr_types.specs.Geometry.{IsAllowed, area_count, head_block}
use Rattle.vr_types.specs.declared.geometry.Geometry.{Geometry}

-- areas of the same length follow one another
below_next : (long first second : ℕ) → first < second
    → first * (long + 1) + long < second * (long + 1)
below_next long first second below =
    omega (arith, mul-le-mul_right {m = first + 1} {n = second} (long + 1) (omega arith))

-- a block is in one area alone
pub one_area : (start long first second n : ℕ) → start + first * (long + 1) ≤ n
    → n ≤ start + first * (long + 1) + long → start + second * (long + 1) ≤ n
    → n ≤ start + second * (long + 1) + long → first ≡ second
one_area start long first second n from to since until =
    elim (cases_lt first second) [
      | inl below ↦ absurd (omega (arith, below_next long first second below))
      | inr least ↦ elim (cases_lt second first) [
        | inl above ↦ absurd (omega (arith, below_next long second first above))
        | inr most ↦ omega arith
      ]
    ]

-- an area is one of those that there are exactly where it ends before the last block
pub area_ends : (blocks log long area : ℕ) → area < (blocks - 1 - log) / (long + 1)
    → 1 + log + area * (long + 1) + long < blocks
area_ends blocks log long area below =
    omega (
      arith,
      div-mul-le_self (blocks - 1 - log) (long + 1),
      mul-le-mul_right {m = area + 1} {n = (blocks - 1 - log) / (long + 1)} (long + 1) (omega arith),
    )

pub area_there : (blocks log long area : ℕ) → 1 + log + area * (long + 1) + long < blocks
    → area < (blocks - 1 - log) / (long + 1)
area_there blocks log long area ends =
    elim (cases_lt area ((blocks - 1 - log) / (long + 1))) [
      | inl below ↦ below
      | inr past ↦ absurd (omega (
        arith,
        lt-mul-div-succ (blocks - 1 - log) {b = long + 1} (omega arith),
        mul-le-mul_right {m = (blocks - 1 - log) / (long + 1)} {n = area} (long + 1) past,
      ))
    ]

-- ---- of a volume of this shape

-- an area ends before the next one begins
pub area-before : (geometry : Geometry) (one other : ℕ) → one < other
    → head_block geometry one + geometry.area < head_block geometry other
area-before geometry one other less = omega (arith, below_next geometry.area one other less)

-- an area is on the device
pub area-on : (geometry : Geometry) (area : ℕ) → area < area_count geometry
    → head_block geometry area + geometry.area < geometry.blocks
area-on geometry area below =
    omega (arith, area_ends geometry.blocks geometry.log geometry.area area below)

-- there are two areas at least
pub two-areas : (geometry : Geometry) → IsAllowed geometry → 2 ≤ area_count geometry
two-areas geometry allowed =
    let there : 1 < area_count geometry =
    area_there geometry.blocks geometry.log geometry.area 1 (omega (arith, allowed.two_areas)) in
    omega (arith, there)
