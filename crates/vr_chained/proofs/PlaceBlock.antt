-- The block of a place's interval in an image: by the areas that are kept, and on the way to the
-- place.
use Rattle.std.proofs.Common.{◌≡◌, ◌-◌, ◌*◌, ◌<◌, ◌≤◌, ℕ, Bool, true, false, List, [], length}
use Rattle.std.proofs.Common.{Option, Some, None, refl, sym, ap, ◌∙◌, arith}
use Rattle.std.specs.Prelude.{cond}
use Rattle.std.proofs.lemmas.Nat.{div-add-mod'}
use Rattle.vr_types.specs.Content.{Item}
use Rattle.vr_types.specs.Fields.{four}
use Rattle.vr_types.specs.Geometry.{area_count}
use Rattle.vr_types.specs.Image.{Block, Image, block_at}
use Rattle.vr_space.specs.Known.{Known}
use Rattle.vr_space.specs.Rosters.{IsChained, IsNumbered, IsOf, Numbered, interval_way, areas_from}
use Rattle.vr_space.specs.Rosters.{roster_block}
use Rattle.vr_space.specs.Numbered.{HasChain, IsNumberPlace, chain_block, interval_of}
use Rattle.vr_space.specs.Numbered.{is_number_place}
use Rattle.vr_space.specs.Numbered.{at_in, item_read, number_of, numbered_way, span_of, start_of}
use Rattle.vr_space.specs.Way.{Found, MayFind, Way, found_on}
use Rattle.vr_space.proofs.CallerLemmas.{place-is, place-tested}
use Rattle.vr_chained.specs.Chain.{ChainNow, IsChainOf}
use Rattle.vr_chained.proofs.Intervals.{interval-past, interval-there}
use Rattle.vr_chained.proofs.Reached.{AreAllowed, AreStable, ComesFrom, block-same, block_from}
use Rattle.vr_chained.proofs.Reached.{comes-from, one-interval, way-finds, way-may, way-reads}
use Rattle.vr_chained.proofs.Reached.{way_at}

-- what is kept of a chain
abbrev pub known-chain : ChainNow → Known
known-chain chain = record {
  split = None;
  move = None;
  met = [];
  most = 0;
  areas = chain.areas;
  ends = [];
  used = chain.used;
  tail = None;
}

pub chain-known : (chain : ChainNow) (image : Image) → IsChainOf chain image
    → HasChain chain.part (known-chain chain) image
chain-known chain image of = record { areas = of.areas; used = of.used }

-- the block of its interval, where the place has a number and the chain has the interval
abbrev pub block_for : Numbered → Image → List ℕ → Option ℕ
block_for part image place =
    cond (is_number_place part place)
    (block_from part image (area_count part.geometry) (interval_of part place) part.first) None

-- the way from that block on
abbrev pub way_for : Numbered → Image → List ℕ → Way
way_for part image place = way_at (item_read part (at_in part place)) (block_for part image place)

-- what an image has at a place
pub place-reads : (part : Numbered) (image : Image) (place : List ℕ)
    → found_on image (numbered_way part place) ≡ found_on image (way_for part image place)
place-reads part image place = by_place (is_number_place part place)
  where
    block : Option ℕ
    block = block_from part image (area_count part.geometry) (interval_of part place) part.first

    by_place : (is : Bool) → found_on image (cond is
        (interval_way part (item_read part (at_in part place)) (interval_of part place))
        (Found None))
        ≡ found_on image (way_at (item_read part (at_in part place)) (cond is block None))
    by_place true = way-reads part image (item_read part (at_in part place))
        (area_count part.geometry) (interval_of part place) part.first
    by_place false = refl

module _ (part : Numbered) (Own : ℕ → Type 0) (Interval : Block → Type 0) (image : Image)
    (chain : IsChained part Own Interval (IsOf image)) where
  -- what may be found there
  pub place-finds : (may : ℕ → Block → Type 0) (item : Option Item) (place : List ℕ)
      → AreStable part Own may image → MayFind may item (numbered_way part place)
      → MayFind may item (way_for part image place)
  place-finds may item place stable found = by_place (is_number_place part place) found
    where
      block : Option ℕ
      block =
          block_from part image (area_count part.geometry) (interval_of part place) part.first

      by_place : (is : Bool) → MayFind may item (cond is
          (interval_way part (item_read part (at_in part place)) (interval_of part place))
          (Found None))
          → MayFind may item (way_at (item_read part (at_in part place)) (cond is block None))
      by_place true here = way-finds part Own Interval image may
          (item_read part (at_in part place)) item stable (area_count part.geometry)
          (interval_of part place) part.first chain here
      by_place false here = here

  -- and the other way round
  pub place-may : (may : ℕ → Block → Type 0) (item : Option Item) (place : List ℕ)
      → AreAllowed part Own may image → MayFind may item (way_for part image place)
      → MayFind may item (numbered_way part place)
  place-may may item place allowed found = by_place (is_number_place part place) found
    where
      block : Option ℕ
      block =
          block_from part image (area_count part.geometry) (interval_of part place) part.first

      by_place : (is : Bool)
          → MayFind may item (way_at (item_read part (at_in part place)) (cond is block None))
          → MayFind may item (cond is
          (interval_way part (item_read part (at_in part place)) (interval_of part place))
          (Found None))
      by_place true here = way-may part Own Interval image may
          (item_read part (at_in part place)) item allowed (area_count part.geometry)
          (interval_of part place) part.first chain here
      by_place false here = here

  -- the block is an interval of an area of the chain
  pub place-from : (place : List ℕ) (block : ℕ) → block_for part image place ≡ Some block
      → ComesFrom part Own Interval image
      (length (areas_from part image (area_count part.geometry) part.first)) block
  place-from place block is = by_place (is_number_place part place) is
    where
      by_place : (test : Bool) → cond test
          (block_from part image (area_count part.geometry) (interval_of part place) part.first)
          None ≡ Some block
          → ComesFrom part Own Interval image
          (length (areas_from part image (area_count part.geometry) part.first)) block
      by_place true there = comes-from part Own Interval image (area_count part.geometry)
          (interval_of part place) part.first block chain there
      by_place false there = absurd cc

  -- another image with the same rosters has the same block
  pub place-same : (other : Image) (place : List ℕ) → ((area : ℕ) → Own area
      → block_at other (roster_block part area) ≡ block_at image (roster_block part area))
      → block_for part other place ≡ block_for part image place
  place-same other place same =
      ap (λ (block : Option ℕ). cond (is_number_place part place) block None)
      (block-same part Own Interval image other same (area_count part.geometry)
      (interval_of part place) part.first chain)

  -- Places that have one block, and are at one place of it, are the same.
  pub one-place : (one other : List ℕ) (block : ℕ) → block_for part image one ≡ Some block
      → block_for part image other ≡ Some block → at_in part one ≡ at_in part other
      → one ≡ other
  one-place one other block first second same =
      by_place (is_number_place part one) refl (is_number_place part other) refl first second
    where
      count : ℕ
      count = area_count part.geometry

      by_place : (is : Bool) → is_number_place part one ≡ is → (its : Bool)
          → is_number_place part other ≡ its
          → cond is (block_from part image count (interval_of part one) part.first) None
          ≡ Some block
          → cond its (block_from part image count (interval_of part other) part.first) None
          ≡ Some block → one ≡ other
      by_place true is true its mine yours =
          let here = place-is part one is in
          let there = place-is part other its in
          let intervals : interval_of part one ≡ interval_of part other =
          one-interval part Own Interval image count (interval_of part one)
          (interval_of part other) part.first block chain mine yours in
          let before = ap (λ (n : ℕ). n * span_of part) intervals in
          let numbers : number_of one ≡ number_of other =
          omega (
            arith,
            div-add-mod' (number_of one - start_of part) (span_of part),
            div-add-mod' (number_of other - start_of part) (span_of part),
            before,
            same,
            here.some,
            there.some,
          ) in
          here.bytes ∙ ap four numbers ∙ sym there.bytes
      by_place true is false its mine yours = absurd cc
      by_place false is test its mine yours = absurd cc

  -- ---- by the areas that are kept

  -- of an interval that is used
  pub block-there : (known : Known) (place : List ℕ) → IsNumbered part
      → HasChain part known image → IsNumberPlace part place → interval_of part place < known.used
      → block_for part image place
      ≡ Some (chain_block part known.areas (interval_of part place))
  block-there known place numbered knows is within =
      let interval : ℕ = interval_of part place in
      ap (λ (test : Bool). cond test
      (block_from part image (area_count part.geometry) interval part.first) None)
      (place-tested part place is)
      ∙ interval-there part Own Interval image chain numbered interval
      (omega (arith, within, knows.used))
      ∙ ap (λ (areas : List ℕ). Some (chain_block part areas interval)) (sym knows.areas)

  -- and there is none past those
  pub block-past : (known : Known) (place : List ℕ) → HasChain part known image
      → known.used ≤ interval_of part place → block_for part image place ≡ None
  block-past known place knows past = by_place (is_number_place part place)
    where
      interval : ℕ
      interval = interval_of part place

      none : block_from part image (area_count part.geometry) interval part.first ≡ None
      none = interval-past part Own Interval image chain interval
          (omega (arith, past, knows.used))

      by_place : (is : Bool) → cond is
          (block_from part image (area_count part.geometry) interval part.first) None ≡ None
      by_place true = none
      by_place false = refl
