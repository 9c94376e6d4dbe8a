-- The blocks that the stages of a split write, of those that are there. That a split moves the
-- upper records of an interval to a free one, and that the entry becomes two, is DFSMS Using Data
-- Sets, control interval splits; that an interval is busy meanwhile is this project's own rule.
use Rattle.std.specs.Prelude.{◌≡◌, ℕ, ◌<◌, true, false, List, [], ◌∷◌, if◌then◌else◌, nat_eq}
use Rattle.std.specs.Prelude.{length}
use Rattle.std.specs.Prelude.{slice_index, All, Option, Some, None}
use Rattle.std.specs.List.{flat_map, list_any}
use Rattle.std.specs.declared.cmp.Ordering.TheVariants.{Less}
use Rattle.vr_types.specs.Content.{place_cmp}
use Rattle.vr_types.specs.Image.{Block}
use Rattle.vr_ci_match.specs.Fault.{is_busy}
use Rattle.vr_seqset.specs.Entry.{Entry}
use Rattle.vr_seqset.specs.Numbers.{intervals_used}
use Rattle.vr_seqset.specs.SequenceSet.{SequenceSet, IsSequenceSet}
use Rattle.vr_seqset.specs.Reading.{record_in}
use Rattle.vr_space.specs.Room.{Range}
use Rattle.vr_space.specs.Keyed.{Keyed, IsHead, HoldsRange, entry_above, entry_in, low_in}
use Rattle.vr_space.specs.Keyed.{records_of, records_in}
use Rattle.vr_space.specs.UnderWay.{above_cut}
use Rattle.vr_space.specs.Search.{AreUpTo}

-- The bytes are an interval of the range, with the records that the block has there, and not busy.
pub record HasRange (part : Keyed) (range : Range) (block bytes : Block) : Type 0 where
  pub holds : HoldsRange part range bytes
  pub idle : is_busy bytes ≡ false
  pub records : records_of part bytes ≡ records_in part range block

-- The bytes are a busy interval with all the records of the block. A busy one may have records
-- beyond its range, so it is an interval of any range.
pub record IsBusyCopy (part : Keyed) (block bytes : Block) : Type 0 where
  pub holds : (range : Range) → HoldsRange part range bytes
  pub records : records_of part bytes ≡ records_of part block
  pub busy : is_busy bytes ≡ true

-- the first keys, this many, come before a range that begins at the low place
abbrev pub AreBefore : List (List ℕ) → Option (List ℕ) → ℕ → Type 0
AreBefore keys None n = n ≡ 0
AreBefore keys (Some low) n = AreUpTo keys low n

-- an entry of one interval
abbrev pub one_entry : ℕ → List ℕ → Entry
one_entry n high = record { intervals = n ∷ []; high = high }

-- the entry of the old interval becomes two: it goes up to the cut, and the other interval from
-- there up to where it went
abbrev pub halved : ℕ → ℕ → List ℕ → Entry → List Entry
halved old into cut entry =
    if nat_eq (slice_index entry.intervals 0) old
    then one_entry old cut ∷ one_entry into entry.high ∷ []
    else entry ∷ []

abbrev pub halves : ℕ → ℕ → List ℕ → List Entry → List Entry
halves old into cut entries = flat_map (halved old into cut) entries

-- the record of a head with both entries
abbrev pub halved_record : ℕ → ℕ → List ℕ → SequenceSet → SequenceSet
halved_record old into cut s = record s { entries = halves old into cut s.entries }

-- The cut is in the range of the old interval's entry, below its end.
pub record IsCutOf (old : ℕ) (cut : List ℕ) (s : SequenceSet) : Type 0 where
  pub at : Range × Entry
  pub leads : entry_above (low_in s) s.entries cut ≡ Some at
  pub is_old : slice_index at.1.intervals 0 ≡ old
  pub less : place_cmp cut at.1.high ≡ Less

-- Each entry has one interval, and none has this one.
pub record AreSingleWithout (into : ℕ) (entries : List Entry) : Type 0 where
  pub single : All (λ (entry : Entry). length entry.intervals ≡ 1) entries
  pub unused : list_any (nat_eq into) (flat_map (λ (entry : Entry). entry.intervals) entries)
      ≡ false

-- The record, in a block of the size, may have both entries.
pub record CanHalve (intervals size old into : ℕ) (cut : List ℕ) (s : SequenceSet) : Type 0 where
  pub key : length cut ≡ length s.low
  pub below : into < intervals_used intervals size (length s.low)
  pub others : AreSingleWithout into s.entries
  pub place : IsCutOf old cut s

-- ---- what a stage makes of the head that is there and of the block of the old interval

-- where the old interval holds the range of the cut, the records of it above the cut
abbrev pub MakesUpper : Keyed → Block → List ℕ → Block → Block → Type 0
MakesUpper part top cut block bytes = (at : Range × Entry) → IsHead part top
    → entry_in top cut ≡ Some at → place_cmp cut at.0.high ≡ Less
    → HoldsRange part at.0 block → HasRange part (above_cut at.0 cut) block bytes

-- the records of the range
abbrev pub MakesLower : Keyed → Block → List ℕ → Block → Block → Type 0
MakesLower part top cut block bytes = (at : Range × Entry) → IsHead part top
    → entry_in top cut ≡ Some at
    → HoldsRange part at.0 block → HasRange part at.0 block bytes

-- the head with both entries
abbrev pub MakesHead : ℕ → Block → ℕ → ℕ → List ℕ → Block → Type 0
MakesHead area top old into cut bytes = IsSequenceSet area top (record_in top)
    → CanHalve area (length top) old into cut (record_in top)
    → IsSequenceSet area bytes (halved_record old into cut (record_in top))
