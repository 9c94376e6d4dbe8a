-- What a stage of a split owes of the blocks that it puts. The rules are this project's own.
use Rattle.std.specs.Prelude.{◌≡◌, ◌⊎◌, ◌<◌, ◌≤◌, ◌+◌, ℕ, List, [], ◌∷◌, Option, Some}
use Rattle.vr_types.specs.Content.{item_at}
use Rattle.vr_types.specs.Image.{Block, Image, block_at}
use Rattle.vr_types.specs.Regions.{Touches}
use Rattle.vr_types.specs.Seen.{Seen, Only}
use Rattle.vr_seqset.specs.Entry.{Entry}
use Rattle.vr_space.specs.Room.{Lengths, Range, HaveRoom}
use Rattle.vr_space.specs.Keyed.{Keyed, IsHead, HoldsRange, EachMayLeave, IsKeyedAtRest, KeepsRoom}
use Rattle.vr_space.specs.Keyed.{HasEnds, InArea, entries_of, entry_block}
use Rattle.vr_space.specs.Keyed.{entry_in}
use Rattle.vr_space.specs.Keyed.{lengths_of, low_of, range_of, records_of, way_under}
use Rattle.vr_space.specs.Part.{Nothing}
use Rattle.vr_space.specs.AreaCalls.{AddsHere, DueMoreHere, HasRoomHere, SameHere, item_here}

-- a block of an interval of the area
pub record IsIntervalBlock (part : Keyed) (n : ℕ) : Type 0 where
  pub low : part.head < n
  pub high : n ≤ part.head + part.area

-- each entry whose interval is block n, from this low place on, has a range with P
abbrev pub OfBlock : Keyed → ℕ → Option (List ℕ) → List Entry → (Range → Type 0) → Type 0
OfBlock part n low [] P = Unit {0}
OfBlock part n low (entry ∷ entries) P =
    (entry_block part entry ≡ n → P (range_of low entry))
    × OfBlock part n (Some entry.high) entries P

-- each entry that is read whose interval is block n has a range with P
abbrev pub OfRead : Keyed → Image → ℕ → (Range → Type 0) → Type 0
OfRead part image n P = OfBlock part n (low_of (block_at image part.head))
    (entries_of (block_at image part.head)) P

-- the entry that is read for a place
abbrev pub entry_read : Keyed → Image → List ℕ → Option (Range × Entry)
entry_read part image place = entry_in (block_at image part.head) place

-- no entry leads to the block
abbrev pub IsFree : Keyed → Image → ℕ → Type 0
IsFree part image n = OfRead part image n (λ range. ⊥)

-- The bytes may replace the block: they are an interval of its range, with room for what is kept,
-- and have the record of each place that leads there.
pub record CanReplace (part : Keyed) (kept : Lengths) (image : Image) (n : ℕ) (bytes : Block) : Type
    0 where
  pub holds : OfRead part image n (λ range. HoldsRange part range bytes)
  pub room : OfRead part image n (λ range. HaveRoom part.size (lengths_of part kept range bytes))
  pub records : (place : List ℕ) (at : Range × Entry)
      → entry_read part image place ≡ Some at → entry_block part at.1 ≡ n
      → item_at (records_of part bytes) place ≡ item_here part image place

-- A place is reached as before, or in a block that a crash leaves with its record.
abbrev pub SwitchesAt : Keyed → Block → Seen → List ℕ → Type 0
SwitchesAt part top now place =
    (way_under part place top ≡ way_under part place (block_at now.cur part.head))
    ⊎ ((at : Range × Entry) × (entry_in top place ≡ Some at)
    × Only now (entry_block part at.1)
    (λ block. item_at (records_of part block) place ≡ item_here part now.cur place))

-- The head may replace the current one, whose ends it has.
pub record CanSwitch (part : Keyed) (kept : Lengths) (top : Block) (now : Seen) : Type 0 where
  pub head : IsHead part top
  pub ends : HasEnds (block_at now.cur part.head) top
  pub holds : EachMayLeave part now (low_of top) (entries_of top) (HoldsRange part)
  pub room : EachMayLeave part now (low_of top) (entries_of top)
      (λ range block. HaveRoom part.size (lengths_of part kept range block))
  pub places : (place : List ℕ) → SwitchesAt part top now place

-- At rest, with room for what is kept.
pub record IsResting (part : Keyed) (kept : Lengths) (now : Seen) : Type 0 where
  pub rests : IsKeyedAtRest part now
  pub room : KeepsRoom part kept now

-- A stage made `new` of `old`, whether it failed or not: it adds nothing to what places of the area
-- may hold; each has the record that it had, the heads have the ends that they had, and there is
-- room for what is kept, in the image of each moment and from then on.
pub record KeepsPart (part : Keyed) (kept : Lengths) (old new : Seen) : Type 0 where
  pub adds : AddsHere part Nothing old new
  pub same : SameHere part old.cur new.cur
  pub current : HasEnds (block_at old.cur part.head) (block_at new.cur part.head)
  pub room : KeepsRoom part kept new
  pub rooms : Touches (InArea part) (HasRoomHere part kept) old new

-- It is done: the area is at rest, and nothing more has to be forced than before.
pub record IsStageDone (part : Keyed) (old new : Seen) : Type 0 where
  pub rests : IsKeyedAtRest part new
  pub due : DueMoreHere part [] old new

-- Whatever a crash leaves of the block has the record of each place that leads there.
abbrev pub IsSettledAt : Keyed → ℕ → Seen → Type 0
IsSettledAt part n now = (place : List ℕ) (at : Range × Entry)
    → entry_read part now.cur place ≡ Some at → entry_block part at.1 ≡ n
    → Only now n (λ block. item_at (records_of part block) place ≡ item_here part
    now.cur place)
