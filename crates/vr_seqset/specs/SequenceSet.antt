-- The sequence-set record of an area of a keyed data set: which control intervals hold the records
-- up to which place, in ascending order of places. It is the lowest level of the index of a
-- key-sequenced data set (DFSMS Using Data Sets); its bytes are this project's own.
use Rattle.std.specs.Prelude.{◌≡◌, ℕ, ◌<◌, ◌≤◌, ◌^◌, Bool, List, [], ◌∷◌, ◌++◌, length, map}
use Rattle.std.specs.Prelude.{replicate, All, Option, None, if◌then◌else◌, MatchBool}
use Rattle.std.specs.List.{flat_map}
use Rattle.std.specs.List.Sorted.{IsStrictlySortedBy}
use Rattle.std.specs.Ordering.{nat_cmp}
use Rattle.std.specs.Cmp.Lexicographic.{slice_cmp}
use Rattle.vr_types.specs.BlockSize.{IsBlockSize}
use Rattle.vr_seqset.specs.Numbers.{intervals_used}
use Rattle.vr_types.specs.Fields.{two, four, area_field, IsArea, AreZeros, padded}
use Rattle.vr_seqset.specs.Entry.{Entry, entry_bytes, IsWhole}
use Rattle.vr_seqset.specs.Numbers.{AreOnceBelow}

-- What a record says: whether it is the first of its part's chain, the part, the next area of the
-- chain, the block of the top index record, the first index area, the place above which its records
-- begin, and its entries.
pub record SequenceSet : Type 0 where
  pub first : Bool
  pub part : ℕ
  pub next : Option ℕ
  pub top : ℕ
  pub index_area : Option ℕ
  pub low : List ℕ
  pub entries : List Entry

-- the 32 bytes before the low place: `S`, and the fields at 1, 2, 6, 8, 12, 16 and 20
unfoldable pub head_bytes : SequenceSet → List ℕ
head_bytes s = 83 ∷ (if s.first then 1 else 0) ∷ two (length s.entries)
    ++ 0 ∷ 0 ∷ two (length s.low) ++ four s.part
    ++ four (area_field s.next) ++ four s.top ++ four (area_field s.index_area) ++ replicate 8 0

unfoldable pub spelling : SequenceSet → List ℕ
spelling s = head_bytes s ++ s.low ++ flat_map entry_bytes s.entries

-- the block of that size which spells the record
abbrev pub block_of_record : ℕ → SequenceSet → List ℕ
block_of_record size s = padded size (spelling s)

-- the intervals of all entries, in their order
abbrev pub used_by : SequenceSet → List ℕ
used_by s = flat_map (λ entry. entry.intervals) s.entries

-- The places that bound the entries. The first record of a chain has no place below it: its first
-- entry holds all records up to its high place.
abbrev pub bounds_of : SequenceSet → List (List ℕ)
bounds_of s = (if s.first then [] else s.low ∷ []) ++ map (λ entry. entry.high) s.entries

-- the block has an allowed size and the record has room in it, places have one length, and each
-- entry has an interval
pub record HasLengths (size : ℕ) (s : SequenceSet) : Type 0 where
  pub block : IsBlockSize size
  pub place : 0 < length s.low
  pub whole : All (IsWhole (length s.low)) s.entries
  pub room : length (spelling s) ≤ size

-- interval numbers are below that of the intervals used, and none comes twice
abbrev pub HasIntervals : ℕ → ℕ → SequenceSet → Type 0
HasIntervals intervals size s = AreOnceBelow (intervals_used intervals size (length s.low))
    (used_by s)

-- each high place is above the one before, the first above the low place
abbrev pub Ascends : SequenceSet → Type 0
Ascends s = IsStrictlySortedBy (slice_cmp nat_cmp) (bounds_of s)

-- the first of a chain has zeros for a low place, and the others name no index
abbrev pub KeepsChain : SequenceSet → Type 0
KeepsChain s = MatchBool s.first (AreZeros s.low) ((s.top ≡ 0) × (s.index_area ≡ None))

-- numbers have room in their fields
pub record HasFields (s : SequenceSet) : Type 0 where
  pub part : s.part < 2 ^ 32
  pub next : IsArea s.next
  pub top : s.top < 2 ^ 32
  pub index_area : IsArea s.index_area

-- All rules of a record in a block of the size, of an area of that many intervals, but that there
-- is
-- an entry. That the last high place of a chain is all X'FF', and no other, is a rule of the chain.
pub record KeepsRules (intervals size : ℕ) (s : SequenceSet) : Type 0 where
  pub lengths : HasLengths size s
  pub fields : HasFields s
  pub numbers : HasIntervals intervals size s
  pub ascends : Ascends s
  pub chain : KeepsChain s

-- The block is the record's, in an area of that many intervals.
pub record IsSequenceSet (intervals : ℕ) (block : List ℕ) (s : SequenceSet) : Type 0 where
  pub rules : KeepsRules intervals (length block) s
  pub some : 0 < length s.entries
  pub spelled : block ≡ block_of_record (length block) s
