-- What an entry-sequenced or relative part keeps in memory of its chain stays, where its blocks
-- have what they had.
use Rattle.std.proofs.Common.{◌≡◌, ◌<◌, ◌/◌, ◌%◌, ℕ, suc, Bool, true, false, IsTrue, List}
use Rattle.std.proofs.Common.{Option, Some, None, sym, ap, subst, ◌∙◌, arith, ltb-true, nat_lt}
use Rattle.std.specs.Prelude.{◌&&◌, bytes_eq, slice_index}
use Rattle.std.proofs.Math.Nat.{mod-lt}
use Rattle.std.proofs.lemmas.List.Elements.{All-weaker}
use Rattle.vr_types.specs.Content.{Item}
use Rattle.vr_types.specs.Fields.{four}
use Rattle.vr_types.specs.Geometry.{area_count}
use Rattle.vr_types.specs.Image.{block_at}
use Rattle.vr_types.specs.Seen.{Left, Seen}
use Rattle.vr_ci.specs.Interval as ci
use Rattle.vr_space.specs.Entries.{Tail, address_after, bytes_in}
use Rattle.vr_space.specs.Keyed.{items_of}
use Rattle.vr_space.specs.Known.{Known}
use Rattle.vr_space.specs.Met.{Met}
use Rattle.vr_space.specs.Owners.{Owners}
use Rattle.vr_space.specs.Part.{InPart, NumberedShape}
use Rattle.vr_space.specs.Rosters.{IsInArea, IsOwnArea, Numbered, chain_of, roster_block, used_of}
use Rattle.vr_space.specs.Numbered.{AreEmptyFrom, IsFilled, IsIntervalMet, IsNumberedSound}
use Rattle.vr_space.specs.Numbered.{IsTailOf, KnowsChain, KnowsTail, chain_block, has_interval}
use Rattle.vr_space.specs.Numbered.{interval_of, items_at, numbered_fits, numbered_way, takes}
use Rattle.vr_space.specs.Way.{found_on}
use Rattle.vr_space.proofs.Chains.{area-nth, areas-same, interval-inside, roster-inside, used-same}
use Rattle.vr_space.proofs.Due.{same-stays}
use Rattle.vr_space.proofs.PartBlocks.{IsPartBlock, StaysPart, area-owned}

module _ (part : Numbered) (owners : Owners) (a b : Seen)
    (stays : StaysPart (NumberedShape part) owners a b) (sound : IsNumberedSound part owners a)
    (left : Left a a.cur) where
  there : (area : ℕ) → IsOwnArea part owners area → (n : ℕ) → IsInArea part area n
      → IsPartBlock (NumberedShape part) owners a n
  there = area-owned part owners a sound.on

  allowed : (area : ℕ) → IsOwnArea part owners area
      → a.may (roster_block part area) (block_at a.cur (roster_block part area))
  allowed area own = left.each (roster_block part area)
      (there area own (roster_block part area) (roster-inside part area)).0

  same-top : (area : ℕ) → IsOwnArea part owners area
      → block_at b.cur (roster_block part area) ≡ block_at a.cur (roster_block part area)
  same-top area own = stays.same (roster_block part area)
      (there area own (roster_block part area) (roster-inside part area)).1

  -- the areas of the chain are the same,
  same-areas : chain_of part b.cur ≡ chain_of part a.cur
  same-areas = areas-same part (IsOwnArea part owners) (IsFilled part) a.may a.cur b.cur allowed
      same-top (area_count part.geometry) part.first sound.chain

  -- and so is the number of their used intervals
  same-used : used_of part b.cur ≡ used_of part a.cur
  same-used = used-same part (IsOwnArea part owners) (IsFilled part) a.may a.cur b.cur allowed
      same-top (area_count part.geometry) part.first sound.chain

  -- the block of a used interval is the part's own
  used-owned : (interval : ℕ) → interval < used_of part a.cur
      → InPart (NumberedShape part) owners (chain_block part (chain_of part a.cur) interval)
  used-owned interval below =
      let some : 0 < part.geometry.area =
      omega (arith, sound.on.part_is.allowed.some_intervals) in
      let area : ℕ = slice_index (chain_of part a.cur) (interval / part.geometry.area) in
      (there area (area-nth part (IsOwnArea part owners) (IsFilled part) a.may a.cur b.cur
      allowed same-top some (area_count part.geometry) interval part.first sound.chain below)
      (chain_block part (chain_of part a.cur) interval)
      (interval-inside part area (interval % part.geometry.area)
      (mod-lt interval some))).1

  -- so the interval of each place is there or isn't as before
  has-same : (place : List ℕ) → has_interval part b.cur place ≡ has_interval part a.cur place
  has-same place = ap (λ (used : ℕ). nat_lt (interval_of part place) used) same-used

  -- and the same records fit
  pub numbered-fits-same : (tail : Option Tail) (place : List ℕ) (n : ℕ)
      → numbered_fits part tail b.cur place n ≡ numbered_fits part tail a.cur place n
  numbered-fits-same tail place n =
      let next : Bool = bytes_eq place (four (address_after part tail n)) in
      ap (λ (has : Bool). has
      && takes part.relative (found_on b.cur (numbered_way part place)) n next) (has-same place)
      ∙ ap (λ (item : Option Item). has_interval part a.cur place
      && takes part.relative item n next)
      (same-stays a b (NumberedShape part) owners stays sound left place)

  interval-met-stays : (met : Met) → IsIntervalMet part a.cur met → IsIntervalMet part b.cur met
  interval-met-stays met is fits =
      let fitted : IsTrue (has_interval part a.cur met.place) =
      subst IsTrue (has-same met.place) fits in
      let before = is fitted in
      let below : interval_of part met.place < used_of part a.cur =
      ltb-true (interval_of part met.place) (used_of part a.cur) fitted in (
        before.0 ∙ ap (λ (areas : List ℕ). chain_block part areas (interval_of part met.place))
            (sym same-areas),
        stays.same met.number (subst (InPart (NumberedShape part) owners) (sym before.0)
            (used-owned (interval_of part met.place) below)) ∙ before.1,
      )

  -- a used interval has the items that it had
  items-same : (interval : ℕ) → interval < used_of part a.cur
      → items_at part b.cur interval ≡ items_at part a.cur interval
  items-same interval below =
      ap (λ (areas : List ℕ). items_of (block_at b.cur (chain_block part areas interval)))
      same-areas
      ∙ ap items_of (stays.same (chain_block part (chain_of part a.cur) interval)
      (used-owned interval below))

  empty-stays : (from : ℕ) → AreEmptyFrom part a.cur from → AreEmptyFrom part b.cur from
  empty-stays from empty interval least below =
      let used : interval < used_of part a.cur = omega (arith, below, same-used) in
      items-same interval used ∙ empty interval least used

  tail-stays : (tail : Option Tail) → IsTailOf part a.cur tail → IsTailOf part b.cur tail
  tail-stays None is = empty-stays 0 is
  tail-stays (Some tail) is =
      let same = items-same tail.interval is.used in record {
        used = omega (arith, is.used, same-used);
        some = λ none. is.some (sym same ∙ none);
        bytes = is.bytes ∙ ap bytes_in (sym same);
        room = is.room ∙ ap ci.room (sym same);
        after = empty-stays (suc tail.interval) is.after;
      }

  tail-known : (relative : Bool) (tail : Option Tail) → KnowsTail relative part a.cur tail
      → KnowsTail relative part b.cur tail
  tail-known true tail is = is
  tail-known false tail is = tail-stays tail is

  -- What is known of the chain stays, and what was met of it.
  pub numbered-known : (known : Known) → KnowsChain part known a.cur → KnowsChain part known b.cur
  numbered-known known knows = record {
    chain = record {
      areas = knows.chain.areas ∙ sym same-areas;
      used = knows.chain.used ∙ sym same-used;
    };
    tail = tail-known part.relative known.tail knows.tail;
    met = All-weaker (IsIntervalMet part a.cur) (IsIntervalMet part b.cur) interval-met-stays
        known.met knows.met;
  }
