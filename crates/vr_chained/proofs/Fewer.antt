-- A stage that makes a chain longer leaves fewer of them.
use Rattle.std.proofs.Common.{◌≡◌, ◌<◌, ◌+◌, ◌*◌, ℕ, List, Option, length, ap, arith}
use Rattle.std.specs.Int.{div_ceil}
use Rattle.std.proofs.Math.Nat.{mul-le-mul_right}
use Rattle.std.proofs.lemmas.Grind.{div_ceil_times}
use Rattle.vr_types.specs.Seen.{Seen}
use Rattle.vr_types.specs.Space.{free_count}
use Rattle.vr_types.specs.declared.unit.PartNo.{PartNo}
use Rattle.vr_types.specs.declared.unit.StageKind.TheVariants.{Extend}
use Rattle.vr_space.specs.Known.{Known}
use Rattle.vr_space.specs.Part.{HasMore, KeepsChain, NumberedShape}
use Rattle.vr_attach.proofs.CallerLemmas.{HoldsAll, holds-all}
use Rattle.vr_chained.specs.Chain.{ChainNow}
use Rattle.vr_chained.specs.Extended.{IsMoreDue}

-- where it is due, one of the intervals that the areas and the free ones have isn't used
due-unused : (chain : ChainNow) (areas : List (Option PartNo)) (now : Seen)
    → IsMoreDue chain areas now
    → chain.used < (length chain.areas + free_count areas) * chain.part.geometry.area
due-unused chain areas now due =
    let whole : ℕ = chain.part.geometry.area in
    omega (
      arith,
      due.unused,
      (div_ceil_times (due.interval + 1) whole
          (omega (arith, due.rests.on.part_is.allowed.some_intervals))).0,
      mul-le-mul_right {m = div_ceil (due.interval + 1) whole}
          {n = length chain.areas + free_count areas} whole (omega (arith, due.enough)),
    )

-- and then it is used, of areas that are as many together
pub due-fewer : (chain : ChainNow) (old new : Known) (areas after : List (Option PartNo))
    (now : Seen) → IsMoreDue chain areas now → old.areas ≡ chain.areas → old.used ≡ chain.used
    → new.used ≡ old.used + 1
    → KeepsChain (NumberedShape chain.part) old.areas new.areas areas after
    → HasMore (NumberedShape chain.part) Extend old new (free_count areas) (free_count after)
due-fewer chain old new areas after now due same used more keeps =
    let whole : ℕ = chain.part.geometry.area in
    let holds : HoldsAll old.areas new.areas (free_count areas) (free_count after) =
    holds-all (NumberedShape chain.part) old.areas new.areas areas after keeps in
    record {
      fewer = omega (
        arith,
        due-unused chain areas now due,
        ap (λ (many : ℕ). many * whole) holds.all,
        ap (λ (held : List ℕ). (length held + free_count areas) * whole) same,
        used,
        more,
      );
      used = more;
    }
