-- What the blocks of an area of a keyed part have at a place.
use Rattle.std.proofs.Common.{◌≡◌, ℕ, Bool, true, false, List, [], ◌∷◌, Option, Some, None}
use Rattle.std.proofs.Common.{MatchOption, ap, subst, ◌∙◌}
use Rattle.std.specs.Prelude.{cond, option_and_then, unwrap_or}
use Rattle.std.specs.Borrow.{Bor}
use Rattle.std.specs.Ordering.{is_le}
use Rattle.vr_types.specs.Content.{Item, place_cmp, item_at, record_of}
use Rattle.vr_types.specs.Content.Item.{Standing}
use Rattle.vr_types.specs.Image.{Block, Image, block_at}
use Rattle.vr_types.specs.Seen.{Seen, Only}
use Rattle.vr_seqset.specs.Entry.{Entry}
use Rattle.vr_space.specs.Way.{found_on}
use Rattle.vr_space.specs.Room.{Range}
use Rattle.vr_space.specs.Keyed.{EachMayLeave, HoldsRange, HoldRanges, Keyed, entries_of}
use Rattle.vr_space.specs.Keyed.{entry_block, entry_for, entry_in, low_of, range_of, records_of}
use Rattle.vr_space.specs.Keyed.{way_in}
use Rattle.vr_space.specs.AreaCalls.{item_here}
use Rattle.vr_space.proofs.CallerLemmas.{found-above}
use Rattle.vr_keyed.specs.Look.{AreaStands, LeadsTo}

-- the interval of the entry that is found is one of its range
holds-found : (part : Keyed) (image : Image) (low : Option (List ℕ)) (entries : List Entry)
    (place : List ℕ) (at : Range × Entry) → HoldRanges part image low entries
    → entry_for low entries place ≡ Some at
    → HoldsRange part at.0 (block_at image (entry_block part at.1))
holds-found part image low [] place at hold is = absurd cc
holds-found part image low (entry ∷ entries) place at hold is =
    by (is_le (place_cmp place entry.high)) is
    (λ more. holds-found part image (Some entry.high) entries place at hold.1 more)
  where
    by : (b : Bool)
        → cond b (Some (range_of low entry, entry)) (entry_for (Some entry.high) entries place)
        ≡ Some at
        → (entry_for (Some entry.high) entries place ≡ Some at
        → HoldsRange part at.0 (block_at image (entry_block part at.1)))
        → HoldsRange part at.0 (block_at image (entry_block part at.1))
    by true same more = subst
        (λ (f : Range × Entry). HoldsRange part f.0 (block_at image (entry_block part f.1)))
        (ap (λ (o : Option (Range × Entry)). unwrap_or o (range_of low entry, entry)) same) hold.0
    by false same more = more same

pub holds-in : (part : Keyed) (image : Image) (place : List ℕ) (at : Range × Entry)
    → AreaStands part image → entry_in (block_at image part.head) place ≡ Some at
    → HoldsRange part at.0 (block_at image (entry_block part at.1))
holds-in part image place at stands is =
    let top : Block = block_at image part.head in
    holds-found part image (low_of top) (entries_of top) place at stands.1.intervals
    (found-above (low_of top) (entries_of top) place at is).leads

each-found : (part : Keyed) (now : Seen) (Q : Range → Block → Type 0) (low : Option (List ℕ))
    (entries : List Entry) (place : List ℕ) (at : Range × Entry)
    → EachMayLeave part now low entries Q → entry_for low entries place ≡ Some at
    → Only now (entry_block part at.1) (Q at.0)
each-found part now Q low [] place at each is = absurd cc
each-found part now Q low (entry ∷ entries) place at each is =
    by (is_le (place_cmp place entry.high)) is
    (λ more. each-found part now Q (Some entry.high) entries place at each.1 more)
  where
    by : (b : Bool)
        → cond b (Some (range_of low entry, entry)) (entry_for (Some entry.high) entries place)
        ≡ Some at
        → (entry_for (Some entry.high) entries place ≡ Some at
        → Only now (entry_block part at.1) (Q at.0))
        → Only now (entry_block part at.1) (Q at.0)
    by true same more = subst
        (λ (f : Range × Entry). Only now (entry_block part f.1) (Q f.0))
        (ap (λ (o : Option (Range × Entry)). unwrap_or o (range_of low entry, entry)) same) each.0
    by false same more = more same

-- and whatever a crash leaves of it has what all that it leaves of the intervals has
pub each-in : (part : Keyed) (now : Seen) (Q : Range → Block → Type 0) (top : Block)
    (place : List ℕ) (at : Range × Entry)
    → EachMayLeave part now (low_of top) (entries_of top) Q → entry_in top place ≡ Some at
    → Only now (entry_block part at.1) (Q at.0)
each-in part now Q top place at each is =
    each-found part now Q (low_of top) (entries_of top) place at each
    (found-above (low_of top) (entries_of top) place at is).leads

module _ (part : Keyed) (image : Image) (place : List ℕ) (n : ℕ)
    (leads : LeadsTo part (block_at image part.head) place n) where
  -- the block is an interval of the range
  pub led-holds : AreaStands part image → HoldsRange part leads.at.0 (block_at image n)
  led-holds stands = subst (λ (k : ℕ). HoldsRange part leads.at.0 (block_at image k)) leads.block
      (holds-in part image place leads.at stands leads.found)

  -- and has the item of the place
  pub led-item : item_here part image place
      ≡ item_at (records_of part (block_at image n)) place
  led-item = ap (λ (o : Option (Range × Entry)). found_on image (way_in part place o)) leads.found
      ∙ ap (λ (k : ℕ). item_at (records_of part (block_at image k)) place) leads.block

-- what is found of an item is the record that is read
pub found-read : (item : Option Item) (found : Option (Bor (List ℕ)))
    → MatchOption found (item ≡ None) (λ s. item ≡ Some (Standing s.now))
    → MatchOption found (option_and_then record_of item ≡ None)
    (λ s. option_and_then record_of item ≡ Some s.now)
found-read item None is = ap (option_and_then record_of) is
found-read item (Some s) is = ap (option_and_then record_of) is
