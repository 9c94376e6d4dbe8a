-- How many intervals a chain of areas may have.
use Rattle.std.proofs.Common.{◌≡◌, ◌+◌, ◌-◌, ◌*◌, ◌^◌, ◌<◌, ◌≤◌, ℕ, zero, suc}
use Rattle.std.proofs.Common.{List, length, arith}
use Rattle.std.proofs.Math.Nat.{div-mul-le_self, mul-le-mul, mul-le-mul_left}
use Rattle.std.proofs.Math.Nat.{mul-le-mul_right}
use Rattle.vr_types.specs.Geometry.{area_count}
use Rattle.vr_space.specs.Rosters.{Numbered}
use Rattle.vr_space.specs.Numbered.{span_of, start_of}
use Rattle.vr_space.proofs.CallerLemmas.{numbers-below, span_up}
use Rattle.vr_chained.specs.Chain.{IsChainNow}

-- the intervals of a chain are no more than the blocks of its volume
pub intervals-below : (part : Numbered) (areas : List ℕ) (used : ℕ) → IsChainNow part areas used
    → length areas * part.geometry.area < 2 ^ 32
intervals-below part areas used is =
    let area = part.geometry.area in
    let within : area_count part.geometry * (area + 1) ≤ part.geometry.blocks =
    omega (arith, div-mul-le_self (part.geometry.blocks - 1 - part.geometry.log) (area + 1)) in
    let wider : length areas * area ≤ area_count part.geometry * (area + 1) =
    mul-le-mul is.few (omega arith) in
    let bytes : part.geometry.blocks * 1 ≤ part.geometry.blocks * part.geometry.size =
    mul-le-mul_left part.geometry.blocks (omega (arith, is.part_is.allowed.size.some)) in
    omega (arith, within, wider, bytes, is.part_is.allowed.bytes)

span-up : (part : Numbered) (k : ℕ) → span_up part k ≡ k * part.geometry.area * span_of part
span-up part zero = omega arith
span-up part (suc k) = omega (arith, span-up part k)

-- the numbers of the places of its intervals have room in four bytes
pub numbers-under : (part : Numbered) (areas : List ℕ) (used intervals : ℕ)
    → IsChainNow part areas used → intervals ≤ used
    → start_of part + intervals * span_of part < 2 ^ 32
numbers-under part areas used intervals is within =
    let area = part.geometry.area in
    let most : intervals ≤ area_count part.geometry * area =
    omega (arith, within, is.within, mul-le-mul_right area is.few) in
    omega (
      arith,
      mul-le-mul_right (span_of part) most,
      numbers-below part is.part_is,
      span-up part (area_count part.geometry),
    )

-- and so has that of each
pub number-fits : (part : Numbered) (areas : List ℕ) (used interval at : ℕ)
    → IsChainNow part areas used → interval < used → at < span_of part
    → start_of part + interval * span_of part + at < 2 ^ 32
number-fits part areas used interval at is within inside =
    omega (arith, numbers-under part areas used (interval + 1) is (omega (arith, within)), inside)
