-- Where an interval in which a record lacks room is cut. The cut is that of vr_split.
use Rattle.std.specs.Prelude.{◌≡◌, ℕ, ◌+◌, ◌<◌, ◌≤◌, IsTrue, Bool, ◌↔◌, List, None, Some, length}
use Rattle.std.specs.Prelude.{false, slice_get, slice_index}
use Rattle.vr_types.specs.Image.{Block, Image, block_at}
use Rattle.vr_types.specs.declared.unit.StageKind.TheVariants.{CiCopy}
use Rattle.vr_seqset.specs.Entry.{Entry}
use Rattle.vr_seqset.specs.Reading.{record_in}
use Rattle.vr_space.specs.Room.{Lengths, Range, HaveRoom, have_room, length_at, with_length}
use Rattle.vr_space.specs.Whence.{places_kept}
use Rattle.vr_space.specs.Keyed.{Keyed, IsHead, HoldsRange, entries_of, entry_in, lengths_of}
use Rattle.vr_space.specs.Split.{SplitNow, free_interval}
use Rattle.vr_space.specs.UnderWay.{IsBegun}
use Rattle.vr_space.specs.Met.{Met, IsMet}
use Rattle.vr_split.specs.Cut.{IsMiddle}
use Rattle.vr_split.specs.Weights.{IsPosition}
use Rattle.vr_keyed.specs.declared.plan.Target.{Target}
use Rattle.vr_keyed.specs.declared.plan.Plan.{Plan}
use Rattle.vr_keyed.specs.Lent.{ArePlaces}

-- The place of this number is the greatest that stays below the cut: just before the new place,
-- where that is the last of the last interval, else at the middle of the weight.
pub record IsCutAt (lengths : Lengths) (place : List ℕ) (last : Bool) (number : ℕ) : Type 0 where
  pub at : ℕ
  pub position : IsPosition lengths place at
  pub further : number + 1 < length lengths
  pub end : IsTrue last → at + 1 ≡ length lengths → number + 1 ≡ at
  pub middle : (IsTrue last → at + 1 ≡ length lengths → ⊥) → IsMiddle lengths (number + 1)

-- fewer than two places, or this isn't one of them
pub record HasNoCut (lengths : Lengths) (place : List ℕ) : Type 0 where
  pub none : 2 ≤ length lengths → (n : ℕ) → length_at lengths place ≡ Some n → ⊥

-- The interval to be cut, the one that gets the upper records, and whether it is the last of the
-- part: of its area, after which no other comes.
pub record IsTargetAt (part : Keyed) (top : Block) (place : List ℕ) (target : Target) : Type 0 where
  pub at : Range × Entry
  pub leads : entry_in top place ≡ Some at
  pub old : target.old ≡ slice_index at.1.intervals 0
  pub into : free_interval part top ≡ Some target.into
  pub number : ℕ
  pub is : slice_get (entries_of top) number ≡ Some at.1
  pub last : IsTrue target.last
      ↔ ((number + 1 ≡ length (entries_of top)) × ((record_in top).next ≡ None))

-- no entry leads there, or no interval is free
abbrev pub HasNoTarget : Keyed → Block → List ℕ → Type 0
HasNoTarget part top place = (at : Range × Entry) (into : ℕ)
    → entry_in top place ≡ Some at → free_interval part top ≡ Some into → ⊥

-- A record of this length lacks room at a place whose interval was met, where what stands and what
-- is kept has room.
pub record LacksRoom (part : Keyed) (image : Image) (kept : Lengths) (met : Met) (place : List ℕ)
    (n : ℕ) : Type 0 where
  pub known : IsMet part image met
  pub same : met.place ≡ place
  pub head : IsHead part (block_at image part.head)
  pub holds : HoldsRange part met.range met.block
  pub places : ArePlaces part.key kept
  pub key : length place ≡ part.key
  pub fits : HaveRoom part.size (lengths_of part kept met.range met.block)
  pub alone : n + 7 ≤ part.size
  pub lacks : have_room part.size
      (with_length (lengths_of part kept met.range met.block) place n) ≡ false

-- the split that begins with these intervals and this cut
abbrev pub begun_with : Target → List ℕ → SplitNow
begun_with target cut = record {
  old = target.old;
  into = target.into;
  cut = cut;
  stage = CiCopy;
}

-- What a split begins with: its intervals, and the number of the greatest place that stays below
-- the cut.
pub record IsPlan (part : Keyed) (image : Image) (kept : Lengths) (met : Met) (place : List ℕ)
    (n : ℕ) (lengths : Lengths) (plan : Plan) : Type 0 where
  pub weighed : lengths ≡ with_length (lengths_of part kept met.range met.block) place n
  pub target : IsTargetAt part (block_at image part.head) place plan.target
  pub cut : IsCutAt lengths place plan.target.last plan.number
  pub begun : (cut : List ℕ) → slice_get (places_kept lengths) plan.number ≡ Some cut
      → IsBegun part (begun_with plan.target cut) image

-- the place of the number has the length of a key
abbrev pub HasKeyAt : Keyed → Lengths → ℕ → Type 0
HasKeyAt part lengths number = (cut : List ℕ)
    → slice_get (places_kept lengths) number ≡ Some cut → length cut ≡ part.key
