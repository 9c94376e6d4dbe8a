-- Where an interval more is due, and each one of the chain is used: an area is free, and the chain
-- takes the least one that is.
use Rattle.std.proofs.Common.{◌≡◌, ◌≢◌, ⊎_elim, ◌<◌, ◌≤◌, ◌+◌, ◌-◌, ◌*◌, ℕ, zero, suc, List, []}
use Rattle.std.proofs.Common.{◌∷◌, length, Option, Some, None, All, eqb, refl, sym, ap, subst, ◌∙◌}
use Rattle.std.proofs.Common.{arith}
use Rattle.std.specs.Prelude.{Contains, cond}
use Rattle.std.specs.List.{AllPairs, position_or_len}
use Rattle.std.specs.Option.{is_none}
use Rattle.std.specs.Int.{div_ceil}
use Rattle.std.proofs.Math.Nat.{mul-le-mul_right}
use Rattle.std.proofs.lemmas.Bool.{cases_lt, lt-ltb}
use Rattle.std.proofs.lemmas.Bool.Decides.{Decides-eqb}
use Rattle.std.proofs.lemmas.Grind.{div_ceil_times}
use Rattle.std.proofs.lemmas.List.{get_or_default}
use Rattle.std.proofs.lemmas.List.Elements.{All-cons, All-contains}
use Rattle.std.proofs.lemmas.List.Quantifiers.{position-Some}
use Rattle.std.proofs.lemmas.Map.Made.{IsDistinct-from_AllPairs}
use Rattle.std.proofs.lemmas.Map.Views.{Contains-from_any}
use Rattle.std.proofs.lemmas.Map.Steps.{length-le_from_distinct_below}
use Rattle.vr_types.specs.Geometry.{area_count}
use Rattle.vr_types.specs.Seen.{Left, Seen}
use Rattle.vr_types.specs.Space.{free_count, least_free}
use Rattle.vr_types.specs.declared.unit.PartNo.{PartNo}
use Rattle.vr_space.specs.Known.{Known}
use Rattle.vr_space.specs.Rosters.{IsChained, IsOf, Numbered, roster_block}
use Rattle.vr_space.specs.Numbered.{IsFilled, IsRestingArea}
use Rattle.vr_space.proofs.CallerLemmas.{are-chained, roster-inside}
use Rattle.vr_chained.specs.Chain.{ChainNow, IsChainOf}
use Rattle.vr_chained.specs.Extended.{IsMoreDue}
use Rattle.vr_chained.proofs.Reached.{chain-once}
use Rattle.vr_chained.proofs.Resting.{resting-chain}

-- ---- an area is free

none-from : (areas : List (Option PartNo)) → length areas ≤ position_or_len is_none areas
    → free_count areas ≡ 0
none-from [] past = refl
none-from (None ∷ areas) past = absurd (omega (arith, past))
none-from (Some part ∷ areas) past = none-from areas (omega (arith, past))

-- where there is no least one, none is free
none-free : (areas : List (Option PartNo)) → least_free areas ≡ None → free_count areas ≡ 0
none-free areas none = none-from areas
    (⊎_elim
    (λ below.
    let some : least_free areas ≡ Some (position_or_len is_none areas) =
    ap (λ (within : Rattle.std.specs.Prelude.Bool).
    cond within (Some (position_or_len is_none areas)) None)
    (lt-ltb (position_or_len is_none areas) (length areas) below) in
    absurd cc)
    (λ past. past) (cases_lt (position_or_len is_none areas) (length areas)))

-- an interval past those of so many areas is in one more
short-some : (used areas whole interval : ℕ) → 0 < whole → used ≡ areas * whole → used ≤ interval
    → 0 < div_ceil (interval + 1) whole - areas
short-some used areas whole interval some all past =
    ⊎_elim (λ more. omega (arith, more))
    (λ least. absurd (omega (
      arith,
      all,
      past,
      (div_ceil_times (interval + 1) whole some).0,
      mul-le-mul_right {m = div_ceil (interval + 1) whole} {n = areas} whole least,
    )))
    (cases_lt areas (div_ceil (interval + 1) whole))

pub due-free : (chain : ChainNow) (areas : List (Option PartNo)) (a : Seen)
    → chain.used ≡ length chain.areas * chain.part.geometry.area → IsMoreDue chain areas a
    → least_free areas ≡ None → ⊥
due-free chain areas a whole due none = omega (
  arith,
  due.enough,
  none-free areas none,
  short-some chain.used (length chain.areas) chain.part.geometry.area due.interval
      (omega (arith, due.rests.on.part_is.allowed.some_intervals)) whole due.unused,
)

-- ---- the chain takes it

-- a list of numbers below this one is no longer, where none comes twice
few-below : (areas : List ℕ) (area most : ℕ) → AllPairs (λ (x y : ℕ). x ≢ y) areas
    → All (λ (x : ℕ). x < most) areas → area < most → (Contains areas area → ⊥)
    → length areas < most
few-below areas area most once below there apart =
    let longer : length (area ∷ areas) ≤ most =
    length-le_from_distinct_below (area ∷ areas) most
    (IsDistinct-from_AllPairs {eq = eqb} Decides-eqb (area ∷ areas) pairs)
    (λ q has. All-contains (λ (x : ℕ). x < most) (area ∷ areas) q
    (All-cons (λ (x : ℕ). x < most) area areas there below)
    (Contains-from_any {eq = eqb} (λ x y same. (Decides-eqb x y).0 same) q (area ∷ areas) has)) in
    omega (arith, longer)
  where
    pairs : AllPairs (λ (x y : ℕ). x ≢ y) (area ∷ areas)
    pairs zero zero d less within = absurd (omega (arith, less))
    pairs zero (suc j) d less within = λ same. apart (
      j,
      omega (arith, within),
      get_or_default areas j area d (omega (arith, within)) ∙ sym same,
    )
    pairs (suc i) zero d less within = absurd (omega (arith, less))
    pairs (suc i) (suc j) d less within = once i j d (omega (arith, less)) (omega (arith, within))

-- What a chain takes: an area of the volume that it doesn't have, where there is room for it.
pub record IsTaken (chain : ChainNow) (area : ℕ) : Type 0 where
  pub there : area < area_count chain.part.geometry
  pub room : length chain.areas < area_count chain.part.geometry
  pub apart : Contains chain.areas area → ⊥

pub due-taken : (chain : ChainNow) (areas : List (Option PartNo)) (a : Seen) (area : ℕ)
    → Left a a.cur → IsChainOf chain a.cur → IsMoreDue chain areas a
    → least_free areas ≡ Some area → IsTaken chain area
due-taken chain areas a area left of due least = record {
  there = there;
  room = few-below chain.areas area (area_count part.geometry)
      (subst (AllPairs (λ (x y : ℕ). x ≢ y)) (sym of.areas)
      (chain-once part Own (IsFilled part) a.cur (area_count part.geometry) part.first image-chain))
      (λ k d below. (own k d below).own.there) there apart;
  apart = apart;
}
  where
    part : Numbered
    part = chain.part

    Own : ℕ → Type 0
    Own = IsRestingArea part due.owners a

    image-chain : IsChained part Own (IsFilled part) (IsOf a.cur)
    image-chain = resting-chain part due.owners a left due.rests

    known : Known
    known = record {
      split = None;
      move = None;
      met = [];
      most = 0;
      areas = chain.areas;
      ends = [];
      used = chain.used;
      tail = None;
    }

    own : All Own chain.areas
    own = (are-chained part Own (IsFilled part) a.cur known image-chain
        (record { areas = of.areas; used = of.used })).own

    there : area < area_count part.geometry
    there = omega (arith, (position-Some is_none areas area None least).0, due.volume)

    apart : Contains chain.areas area → ⊥
    apart has =
        let n : ℕ = roster_block part area in
        let mine : Own area = All-contains Own chain.areas area own has in
        let owned : due.owners n ≡ Some part.part =
        mine.own.owned n (roster-inside part area) in
        let free : due.owners n ≡ None = due.grows.free area least n (roster-inside part area) in
        absurd cc
