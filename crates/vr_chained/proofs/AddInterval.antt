-- An interval more of the last area: it is written empty and forced, then the roster that counts
-- it.
use Rattle.std.proofs.Common.{◌≡◌, ◌<◌, ◌+◌, ◌-◌, ◌*◌, ℕ, zero, suc, Bool, IsTrue, List, [], ◌∷◌}
use Rattle.std.proofs.Common.{length, All, Option, None, get_or, refl, sym, ap, subst, ◌∙◌, arith}
use Rattle.std.proofs.Math.Nat.{suc-mul}
use Rattle.std.proofs.lemmas.List.{length-append}
use Rattle.vr_types.specs.Blocks.{Puts}
use Rattle.vr_types.specs.Image.{Block}
use Rattle.vr_types.specs.Seen.{Left, Only, Seen}
use Rattle.vr_types.specs.declared.unit.PartNo.{PartNo}
use Rattle.vr_space.specs.Owners.{Owners}
use Rattle.vr_space.specs.Part.{InPart, IsQuiet, MayGrow, NumberedShape}
use Rattle.vr_space.specs.Room.{Lengths}
use Rattle.vr_space.specs.Rosters.{IsInArea, IsNumbered, Numbered, chain_of, interval_in, roster_at}
use Rattle.vr_space.specs.Rosters.{roster_block, used_of}
use Rattle.vr_space.specs.Numbered.{IsFilled, IsNumberedAtRest, IsRestingArea, KeepsNumbered}
use Rattle.vr_space.proofs.CallerLemmas.{area-owned, interval-inside, roster-inside}
use Rattle.vr_chained.specs.Chain.{ChainNow, IsChainOf}
use Rattle.vr_chained.specs.Extended.{IsExtended, IsMadeRoster, MayExtend}
use Rattle.vr_chained.specs.Filled.{IsUnfilled}
use Rattle.vr_chained.proofs.Extending.{KeepsChain, done-then, keeps-of, keeps-quiet, may-then}
use Rattle.vr_chained.proofs.LastArea.{IsLast}
use Rattle.vr_chained.proofs.LastPuts.{IsEnd, counted-done, counted-may, counted-of, end-of}
use Rattle.vr_chained.proofs.Unreached.{IsUnreached, next-unreached, unreached-keeps, unreached-may}

-- How many intervals are used before the last area, and in it.
pub record UsedInLast (chain : ChainNow) (used : ℕ) : Type 0 where
  pub before : ℕ
  pub count : length chain.areas ≡ before + 1
  pub sum : chain.used ≡ before * chain.part.geometry.area + used

pub used-in-last : (chain : ChainNow) (a : Seen) → Left a a.cur → IsChainOf chain a.cur
    → (last : ℕ) → IsEnd chain.areas last → IsQuiet (NumberedShape chain.part) a
    → UsedInLast chain (roster_at chain.part a.cur last).used
used-in-last chain a left of last is-end quiet =
    let end = end-of chain a left of last is-end quiet.0 quiet.1 in
    record {
      before = length end.before;
      count = ap (λ (areas : List ℕ). length areas) (of.areas ∙ end.listed)
          ∙ length-append end.before (last ∷ []);
      sum = of.used ∙ end.used_is;
    }

-- by what the chain says of it, there is one more
pub used-is-last : (chain : ChainNow) (now used : ℕ) → UsedInLast chain now
    → used ≡ chain.used - (length chain.areas - 1) * chain.part.geometry.area → now ≡ used
used-is-last chain now used in-last is =
    let before : (length chain.areas - 1) * chain.part.geometry.area
    ≡ in-last.before * chain.part.geometry.area =
    ap (λ (n : ℕ). n * chain.part.geometry.area) (omega (arith, in-last.count)) in
    omega (arith, is, before, in-last.sum)

pub unused-in-last : (chain : ChainNow) (now : ℕ) → UsedInLast chain now
    → chain.used < length chain.areas * chain.part.geometry.area → now < chain.part.geometry.area
unused-in-last chain now in-last unused =
    let all : length chain.areas * chain.part.geometry.area
    ≡ (in-last.before + 1) * chain.part.geometry.area =
    ap (λ (n : ℕ). n * chain.part.geometry.area) in-last.count in
    omega (arith, unused, all, in-last.sum)

-- one of them at least isn't used, where not all are
last-below : (used areas whole last : ℕ) → 0 < whole → used < areas * whole
    → last ≡ used - (areas - 1) * whole → last < whole
last-below used zero whole last some unused is = absurd (omega (arith, unused))
last-below used (suc areas) whole last some unused is =
    let before : (suc areas - 1) * whole ≡ areas * whole =
    ap (λ (n : ℕ). n * whole) (omega arith) in
    omega (arith, some, unused, is, before, suc-mul areas whole)

pub next-below : (chain : ChainNow) (used : ℕ) → IsNumbered chain.part
    → chain.used < length chain.areas * chain.part.geometry.area
    → used ≡ chain.used - (length chain.areas - 1) * chain.part.geometry.area
    → used < chain.part.geometry.area
next-below chain used numbered =
    last-below chain.used (length chain.areas) chain.part.geometry.area used
    (omega (arith, numbered.allowed.some_intervals))

module _ (chain : ChainNow) (tells : Bool) (told : IsTrue tells) (a b : Seen) (last used : ℕ)
    (bytes : Block) (left : Left a a.cur) (of : IsChainOf chain a.cur)
    (unused : chain.used < length chain.areas * chain.part.geometry.area)
    (is-end : IsEnd chain.areas last)
    (used-is : used ≡ chain.used - (length chain.areas - 1) * chain.part.geometry.area)
    (call : Puts tells (interval_in chain.part last used) bytes a b)
    (quiet : IsQuiet (NumberedShape chain.part) a) where
  abbrev part : Numbered
  part = chain.part

  abbrev n : ℕ
  n = interval_in part last used

  end : (owners : Owners) → IsNumberedAtRest part owners a
      → IsLast part (IsRestingArea part owners a) (IsFilled part) a.cur a.may (chain_of part a.cur)
      (used_of part a.cur) last
  end = end-of chain a left of last is-end

  in-last : UsedInLast chain (roster_at part a.cur last).used
  in-last = used-in-last chain a left of last is-end quiet

  same : (roster_at part a.cur last).used ≡ used
  same = used-is-last chain (roster_at part a.cur last).used used in-last used-is

  now-unused : (roster_at part a.cur last).used < part.geometry.area
  now-unused = unused-in-last chain (roster_at part a.cur last).used in-last unused

  off : All (IsUnreached part a.cur n) (chain_of part a.cur)
  off k d short =
      subst (λ (at : ℕ).
      IsUnreached part a.cur (interval_in part last at) (get_or (chain_of part a.cur) k d)) same
      (next-unreached part a.cur last (get_or (chain_of part a.cur) k d) now-unused)

  inside : IsInArea part last n
  inside = interval-inside part last used (omega (arith, same, now-unused))

  below : n < a.count
  below = (area-owned part quiet.0 a quiet.1.on last (end quiet.0 quiet.1).own.own n inside).0

  mine : (areas : List (Option PartNo)) (owners grown : Owners)
      → MayGrow (NumberedShape part) areas owners grown → IsNumberedAtRest part owners a
      → InPart (NumberedShape part) grown n
  mine areas owners grown grows rests =
      grows.kept n part.part ((end owners rests).own.own.owned n inside)

  -- the empty interval
  pub empty-may : (areas : List (Option PartNo)) (kept : Lengths)
      → KeepsNumbered chain.part kept a.may → MayExtend chain.part areas kept a b
  empty-may areas kept keeps = unreached-may part tells told a b n bytes call left below off areas
      kept quiet keeps (mine areas)

  module _ (only : Only b n (λ (block : Block). block ≡ bytes)) (after : Left b b.cur)
      (empty : IsUnfilled chain.part bytes) (c : Seen) (top : Block)
      (put : Puts tells (roster_block chain.part last) top b c)
      (made : IsMadeRoster chain.part (used + 1) None top) where
    abbrev roster : ℕ
    roster = roster_block part last

    roster-below : roster < b.count
    roster-below =
        let here = area-owned part quiet.0 a quiet.1.on last (end quiet.0 quiet.1).own.own roster
        (roster-inside part last) in
        omega (arith, here.0, call.count_same)

    keeps : KeepsChain part a b
    keeps = unreached-keeps part tells told a b n bytes call left below off only after quiet

    of-then : IsChainOf chain b.cur
    of-then = keeps-of chain a b keeps of

    quiet-then : IsQuiet (NumberedShape part) b
    quiet-then = keeps-quiet part a b keeps quiet

    then-in-last : UsedInLast chain (roster_at part b.cur last).used
    then-in-last = used-in-last chain b after of-then last is-end quiet-then

    used-then : (roster_at part b.cur last).used ≡ used
    used-then = used-is-last chain (roster_at part b.cur last).used used then-in-last used-is

    made-then : IsMadeRoster part ((roster_at part b.cur last).used + 1) None top
    made-then = subst (λ (m : ℕ). IsMadeRoster part (m + 1) None top) (sym used-then) made

    unused-then : (roster_at part b.cur last).used < part.geometry.area
    unused-then = unused-in-last chain (roster_at part b.cur last).used then-in-last unused

    fresh : Only b (interval_in part last (roster_at part b.cur last).used) (IsUnfilled part)
    fresh block may = subst (IsUnfilled part)
        (sym (only block (subst (λ (m : ℕ). b.may m block)
        (ap (interval_in part last) used-then) may))) empty

    -- and the roster
    pub roster-may : (areas : List (Option PartNo)) (kept : Lengths)
        → KeepsNumbered chain.part kept a.may → MayExtend chain.part areas kept a c
    roster-may areas kept room =
        let early = empty-may areas kept room in
        may-then part areas a b c keeps kept early
        (counted-may chain tells told b c roster top put after roster-below of-then last is-end
        refl made-then unused-then fresh areas kept quiet-then early.room)

    pub roster-done : Only c (roster_block chain.part last) (λ (block : Block). block ≡ top)
        → Left c c.cur → (areas : List (Option PartNo)) → IsExtended chain.part areas areas a c
        × IsChainOf (record {
          part = chain.part;
          areas = chain.areas;
          used = chain.used + 1;
        }) c.cur
    roster-done forced last-left areas = (
      done-then part areas a b c keeps areas
          (counted-done chain tells told b c roster top put after roster-below of-then last is-end
          refl made-then unused-then fresh forced last-left quiet-then areas),
      counted-of chain tells told b c roster top put after roster-below of-then last is-end refl
          made-then unused-then fresh forced last-left quiet-then,
    )
