-- Which fault is reported for a block that spells no record: the first rule that it breaks, in the
-- order in which they are tried.
use Rattle.std.specs.Prelude.{◌≡◌, ℕ, ◌<◌, ◌≤◌, List, length, take, drop, slice_index}
use Rattle.vr_types.specs.BlockSize.{IsBlockSize}
use Rattle.vr_types.specs.Fields.{AreZeros}
use Rattle.vr_seqset.specs.SequenceSet.{spelling, HasLengths, HasIntervals, Ascends, KeepsChain}
use Rattle.vr_seqset.specs.Reading.{record_in, roster_in}
use Rattle.vr_seqset.specs.declared.fault.SeqFault.{SeqFault}
use Rattle.vr_seqset.specs.declared.fault.SeqFault.TheVariants as faults

-- Lengths and counts: the block's size is allowed, places have a byte at least, there is an entry,
-- each entry has an interval and a whole high place, and the last ends in the block.
pub record CanBeCut (block : List ℕ) : Type 0 where
  pub lengths : HasLengths (length block) (record_in block)
  pub some : 0 < length (record_in block).entries

-- Every byte without a name is zero: those at 4, 5 and 24 to 31, and those after the last entry.
-- The flag is 1 or zero. In the first of a chain the low place is zeros, and in the others the
-- fields of the index are.
pub record HasZeros (block : List ℕ) : Type 0 where
  pub flag : slice_index block 1 < 2
  pub gap : AreZeros (take 2 (drop 4 block))
  pub second_gap : AreZeros (take 8 (drop 24 block))
  pub chain : KeepsChain (record_in block)
  pub rest : AreZeros (drop (length (spelling (record_in block))) block)

-- the rule that a fault names, for the block of a sequence-set record in an area of that many
-- intervals
abbrev pub Keeps : ℕ → List ℕ → SeqFault → Type 0
Keeps intervals block faults.Kind = slice_index block 0 ≡ 83
Keeps intervals block faults.Lengths = CanBeCut block
Keeps intervals block faults.Intervals = HasIntervals intervals (length block) (record_in block)
Keeps intervals block faults.Places = Ascends (record_in block)
Keeps intervals block faults.Zeros = HasZeros block

-- the lengths of a roster: the block's size, and no more intervals used than there are
pub record RosterFits (intervals : ℕ) (block : List ℕ) : Type 0 where
  pub size : IsBlockSize (length block)
  pub used : (roster_in block).used ≤ intervals

-- the bytes at 1, 4 to 7, and from 16 on have no name
pub record RosterHasZeros (block : List ℕ) : Type 0 where
  pub flag : slice_index block 1 ≡ 0
  pub gap : AreZeros (take 4 (drop 4 block))
  pub rest : AreZeros (drop 16 block)

-- the rule that a fault names, for the block of a roster, which has no interval numbers and no
-- places
abbrev pub KeepsRoster : ℕ → List ℕ → SeqFault → Type 0
KeepsRoster intervals block faults.Kind = slice_index block 0 ≡ 82
KeepsRoster intervals block faults.Lengths = RosterFits intervals block
KeepsRoster intervals block faults.Intervals = Unit {0}
KeepsRoster intervals block faults.Places = Unit {0}
KeepsRoster intervals block faults.Zeros = RosterHasZeros block

-- the order in which the rules are tried
abbrev pub fault_number : SeqFault → ℕ
fault_number faults.Kind = 1
fault_number faults.Lengths = 2
fault_number faults.Intervals = 3
fault_number faults.Places = 4
fault_number faults.Zeros = 5

-- the fault names the first rule that is broken
pub record IsFirstBroken (Rule : SeqFault → Type 0) (fault : SeqFault) : Type 0 where
  pub broken : ¬ (Rule fault)
  pub before : (other : SeqFault) → fault_number other < fault_number fault → Rule other
