-- An area more of the chain: it is written with one empty interval and forced, then the roster of
-- the last area, which leads to it.
use Rattle.std.proofs.Common.{◌≡◌, ◌≢◌, ◌<◌, ◌+◌, ◌*◌, ◌++◌, ℕ, Bool, IsTrue, List, [], ◌∷◌, length}
use Rattle.std.proofs.Common.{All, Option, Some, None, sym, ap, subst, ◌∙◌, arith, refl}
use Rattle.std.proofs.Math.Nat.{suc-mul}
use Rattle.std.proofs.lemmas.List.Elements.{All-head, All-weaker}
use Rattle.vr_types.specs.Blocks.{Puts}
use Rattle.vr_types.specs.Geometry.{area_count}
use Rattle.vr_types.specs.Image.{Block, block_at}
use Rattle.vr_types.specs.Seen.{Left, Only, Seen}
use Rattle.vr_types.specs.Space.{least_free}
use Rattle.vr_types.specs.declared.unit.PartNo.{PartNo}
use Rattle.vr_types.proofs.CallerLemmas.{only-elsewhere}
use Rattle.vr_seqset.proofs.CallerLemmas.{All-right}
use Rattle.vr_space.specs.Part.{IsQuiet, NumberedShape}
use Rattle.vr_space.specs.Room.{Lengths}
use Rattle.vr_space.specs.Rosters.{IsInArea, Numbered, chain_of, interval_in, roster_at}
use Rattle.vr_space.specs.Rosters.{roster_block}
use Rattle.vr_space.specs.Numbered.{IsNumberedOn, KeepsNumbered}
use Rattle.vr_space.proofs.CallerLemmas.{area-below, area-owned, interval-inside, roster-inside}
use Rattle.vr_chained.specs.Chain.{ChainNow, IsChainOf}
use Rattle.vr_chained.specs.Extended.{IsExtended, IsMadeRoster, MayExtend}
use Rattle.vr_chained.specs.Filled.{IsUnfilled}
use Rattle.vr_chained.proofs.AddInterval.{UsedInLast, used-in-last}
use Rattle.vr_chained.proofs.Extending.{KeepsChain, done-then, keeps-of, keeps-quiet, keeps-then}
use Rattle.vr_chained.proofs.Extending.{may-then}
use Rattle.vr_chained.proofs.LastPuts.{IsEnd, end-of, linked-done, linked-may, linked-of}
use Rattle.vr_chained.proofs.Reached.{roster-apart}
use Rattle.vr_chained.proofs.Unreached.{IsUnreached, other-unreached, unreached-keeps}
use Rattle.vr_chained.proofs.Unreached.{unreached-may}

-- ---- a put into an area that the chain doesn't have

module _ (chain : ChainNow) (tells : Bool) (told : IsTrue tells) (a b : Seen) (n area : ℕ)
    (bytes : Block) (left : Left a a.cur) (of : IsChainOf chain a.cur)
    (apart : All (λ (other : ℕ). other ≢ area) chain.areas)
    (inside : IsInArea chain.part area n) (call : Puts tells n bytes a b) (below : n < a.count)
    (quiet : IsQuiet (NumberedShape chain.part) a) where
  off : All (IsUnreached chain.part a.cur n) (chain_of chain.part a.cur)
  off = subst (All (IsUnreached chain.part a.cur n)) of.areas
      (All-weaker (λ (other : ℕ). other ≢ area) (IsUnreached chain.part a.cur n)
      (λ other distinct. other-unreached chain.part a.cur n area other inside distinct) chain.areas
      apart)

  -- whether it failed or not
  pub outside-may : (areas : List (Option PartNo)) (kept : Lengths) → least_free areas ≡ Some area
      → KeepsNumbered chain.part kept a.may → MayExtend chain.part areas kept a b
  outside-may areas kept least keeps = unreached-may chain.part tells told a b n bytes call left
      below off areas kept quiet keeps
      (λ owners grown grows rests. grows.claimed area least n inside)

  -- where it is forced
  pub outside-keeps : Only b n (λ (block : Block). block ≡ bytes) → Left b b.cur
      → KeepsChain chain.part a b
  outside-keeps only after =
      unreached-keeps chain.part tells told a b n bytes call left below off only after quiet

-- the last area that the chain has isn't that one
last-other : (chain : ChainNow) (a : Seen) → Left a a.cur → IsChainOf chain a.cur
    → (last area : ℕ) → IsEnd chain.areas last → All (λ (other : ℕ). other ≢ area) chain.areas
    → IsQuiet (NumberedShape chain.part) a → last ≢ area
last-other chain a left of last area is-end apart quiet =
    let end = end-of chain a left of last is-end quiet.0 quiet.1 in
    All-head (λ (other : ℕ). other ≢ area) last []
    (All-right (λ (other : ℕ). other ≢ area) end.before (last ∷ [])
    (subst (All (λ (other : ℕ). other ≢ area)) (of.areas ∙ end.listed) apart))

-- where all intervals are used, those of the last area are
whole-in-last : (chain : ChainNow) (now : ℕ) → UsedInLast chain now
    → chain.used ≡ length chain.areas * chain.part.geometry.area → now ≡ chain.part.geometry.area
whole-in-last chain now in-last whole =
    let all : length chain.areas * chain.part.geometry.area
    ≡ (in-last.before + 1) * chain.part.geometry.area =
    ap (λ (n : ℕ). n * chain.part.geometry.area) in-last.count in
    omega (arith, whole, all, in-last.sum)

-- and with an area more, not all are
pub room-more : (used areas whole more : ℕ) → used ≡ areas * whole → 0 < whole → more ≡ areas + 1
    → used < more * whole
room-more used areas whole more is some count =
    let all : more * whole ≡ (areas + 1) * whole = ap (λ (n : ℕ). n * whole) count in
    omega (arith, is, some, all, suc-mul areas whole)

-- ---- the three puts

module _ (chain : ChainNow) (tells : Bool) (told : IsTrue tells) (a b : Seen) (area : ℕ)
    (bytes : Block) (left : Left a a.cur) (of : IsChainOf chain a.cur)
    (apart : All (λ (other : ℕ). other ≢ area) chain.areas)
    (there : area < area_count chain.part.geometry) (on : IsNumberedOn chain.part a)
    (call : Puts tells (interval_in chain.part area 0) bytes a b) where
  abbrev part : Numbered
  part = chain.part

  some : 0 < part.geometry.area
  some = omega (arith, on.part_is.allowed.some_intervals)

  abbrev n : ℕ
  n = interval_in part area 0

  n-inside : IsInArea part area n
  n-inside = interval-inside part area 0 some

  below : (m : ℕ) → IsInArea part area m → m < a.count
  below m inside = omega (arith, area-below part area m there inside, on.blocks)

  -- its empty interval
  pub fresh-may : (areas : List (Option PartNo)) (kept : Lengths) → least_free areas ≡ Some area
      → KeepsNumbered chain.part kept a.may → IsQuiet (NumberedShape chain.part) a
      → MayExtend chain.part areas kept a b
  fresh-may areas kept least keeps quiet = outside-may chain tells told a b n area bytes left of
      apart n-inside call (below n n-inside) quiet areas kept least keeps

  module _ (only : Only b (interval_in chain.part area 0) (λ (block : Block). block ≡ bytes))
      (after : Left b b.cur) (empty : IsUnfilled chain.part bytes) (c : Seen) (top : Block)
      (put : Puts tells (roster_block chain.part area) top b c)
      (made : IsMadeRoster chain.part 1 None top) (quiet : IsQuiet (NumberedShape chain.part) a)
    where
      abbrev roster : ℕ
      roster = roster_block part area

      roster-below : roster < b.count
      roster-below =
          omega (arith, below roster (roster-inside part area), call.count_same)

      first : KeepsChain part a b
      first = outside-keeps chain tells told a b n area bytes left of apart n-inside call
          (below n n-inside) quiet only after

      of-b : IsChainOf chain b.cur
      of-b = keeps-of chain a b first of

      quiet-b : IsQuiet (NumberedShape part) b
      quiet-b = keeps-quiet part a b first quiet

      -- its roster
      pub top-may : (areas : List (Option PartNo)) (kept : Lengths) → least_free areas ≡ Some area
          → KeepsNumbered chain.part kept a.may → MayExtend chain.part areas kept a c
      top-may areas kept least keeps =
          let early = fresh-may areas kept least keeps quiet in
          may-then part areas a b c first kept early
          (outside-may chain tells told b c roster area top after of-b apart
          (roster-inside part area) put roster-below quiet-b areas kept least early.room)

      module _ (forced : Only c (roster_block chain.part area) (λ (block : Block). block ≡ top))
          (settled : Left c c.cur) (d : Seen) (last : ℕ) (bound : Block)
          (is-end : IsEnd chain.areas last)
          (few : length chain.areas < area_count chain.part.geometry)
          (whole : chain.used ≡ length chain.areas * chain.part.geometry.area)
          (tie : Puts tells (roster_block chain.part last) bound c d)
          (leads : IsMadeRoster chain.part chain.part.geometry.area (Some area) bound) where
        abbrev link : ℕ
        link = roster_block part last

        second : KeepsChain part b c
        second = outside-keeps chain tells told b c roster area top after of-b apart
            (roster-inside part area) put roster-below quiet-b forced settled

        both : KeepsChain part a c
        both = keeps-then part a b c first second

        of-c : IsChainOf chain c.cur
        of-c = keeps-of chain a c both of

        quiet-c : IsQuiet (NumberedShape part) c
        quiet-c = keeps-quiet part a c both quiet

        other : last ≢ area
        other = last-other chain c settled of-c last area is-end apart quiet-c

        whole-last : (roster_at part c.cur last).used ≡ part.geometry.area
        whole-last = whole-in-last chain (roster_at part c.cur last).used
            (used-in-last chain c settled of-c last is-end quiet-c) whole

        top-made : Only c (roster_block part area) (IsMadeRoster part 1 None)
        top-made block may = subst (IsMadeRoster part 1 None) (sym (forced block may)) made

        n-apart : n ≢ roster
        n-apart same = roster-apart part area area 0 some (sym same)

        fresh : Only c (interval_in part area 0) (IsUnfilled part)
        fresh block may = subst (IsUnfilled part)
            (sym (only-elsewhere tells b c n roster top (λ (block : Block). block ≡ bytes) told
            (omega (arith, below n n-inside, call.count_same)) n-apart put only block may)) empty

        count-same : c.count ≡ a.count
        count-same = put.count_same ∙ call.count_same

        n-below : interval_in part area 0 < c.count
        n-below = omega (arith, below n n-inside, count-same)

        top-below : roster_block part area < c.count
        top-below = omega (arith, roster-below, put.count_same)

        link-below : link < c.count
        link-below =
            let end = end-of chain c settled of-c last is-end quiet-c.0 quiet-c.1 in
            (area-owned part quiet-c.0 c quiet-c.1.on last end.own.own link
            (roster-inside part last)).0

        -- the roster that leads to it
        pub link-may : (areas : List (Option PartNo)) (kept : Lengths)
            → least_free areas ≡ Some area → KeepsNumbered chain.part kept a.may
            → MayExtend chain.part areas kept a d
        link-may areas kept least keeps =
            let early = top-may areas kept least keeps in
            may-then part areas a c d both kept early
            (linked-may chain tells told c d link bound tie settled link-below of-c last is-end refl
            area other there few whole-last leads top-made fresh top-below n-below some areas kept
            least quiet-c early.room)

        top-stable : Only c (roster_block part area)
            (λ (block : Block). block ≡ block_at c.cur (roster_block part area))
        top-stable block may =
            let is : block ≡ top = forced block may in
            let now : block_at c.cur roster ≡ top =
            forced (block_at c.cur roster)
            (settled.each roster (omega (arith, roster-below, put.count_same))) in
            is ∙ sym now

        pub link-done : Only d (roster_block chain.part last) (λ (block : Block). block ≡ bound)
            → Left d d.cur → (areas after : List (Option PartNo)) → least_free areas ≡ Some area
            → after ≢ areas → IsExtended chain.part areas after a d
            × IsChainOf (record {
              part = chain.part;
              areas = chain.areas ++ area ∷ [];
              used = chain.used + 1;
            }) d.cur
        link-done tied ended areas claimed least differs = (
          done-then part areas a c d both claimed
              (linked-done chain tells told c d link bound tie settled link-below of-c last is-end
              refl area other there few whole-last leads top-made fresh top-below n-below some tied
              ended quiet-c areas claimed least differs top-stable),
          linked-of chain tells told c d link bound tie settled link-below of-c last is-end refl
              area other there few whole-last leads top-made fresh top-below n-below some tied ended
              quiet-c,
        )
