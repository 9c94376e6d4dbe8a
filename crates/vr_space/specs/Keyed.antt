-- The blocks of one area of a keyed part: its head, which is a sequence-set record of one entry or
-- more, and its control intervals (DFSMS Using Data Sets, key-sequenced data sets). A part is a
-- chain of such areas (`Areas.antt`); nothing here asks that this one is the first or the last of
-- its chain. Which content the blocks stand for, and what a crash may leave of them, are this
-- project's own rules.
use Rattle.std.specs.Prelude.{◌≡◌, ℕ, ◌+◌, ◌<◌, ◌≤◌, true, false, IsTrue, List, [], ◌∷◌, ◌++◌}
use Rattle.std.specs.Prelude.{length, take, drop, map, filter, All, Option, Some, None, slice_index}
use Rattle.std.specs.Prelude.{if◌then◌else◌}
use Rattle.std.specs.List.{flat_map, last_or}
use Rattle.std.specs.List.Sorted.{IsStrictlySortedBy}
use Rattle.std.specs.Ordering.{is_le}
use Rattle.vr_types.specs.Content.{Content, Placed, Item, place_cmp, item_at}
use Rattle.vr_types.specs.Content.Item.{Standing}
use Rattle.vr_types.specs.Image.{Block, Image, block_at}
use Rattle.vr_types.specs.Seen.{Seen, Only}
use Rattle.vr_ci_match.specs.declared.form.Form.TheVariants.{Plain}
use Rattle.vr_ci_match.specs.declared.form.Shape.TheVariants as shapes
use Rattle.vr_ci_match.specs.Rdf.{marks}
use Rattle.vr_ci_match.specs.Fault.{free_end, is_busy}
use Rattle.vr_ci.specs.Interval as ci
use Rattle.vr_ci.specs.Reading.{items_at, rdfs_in}
use Rattle.vr_seqset.specs.Entry.{Entry}
use Rattle.vr_seqset.specs.SequenceSet.{SequenceSet, IsSequenceSet}
use Rattle.vr_seqset.specs.Reading.{record_in}
use Rattle.vr_space.specs.Owners.{Owners}
use Rattle.vr_space.specs.Way.{Way, Found, Reads}
use Rattle.vr_space.specs.Room.{Lengths, Range, is_above, is_in, lengths_in, with_lengths}
use Rattle.vr_space.specs.Room.{HaveRoom}

-- Where an area of a keyed part is, and what its records are: the number of the part, the block of
-- its head, how many intervals an area has, the bytes of a block; the length and offset of the key,
-- and the longest record.
pub record Keyed : Type 0 where
  pub part : ℕ
  pub head : ℕ
  pub area : ℕ
  pub size : ℕ
  pub key : ℕ
  pub offset : ℕ
  pub most : ℕ

-- the blocks of its area
abbrev pub InArea : Keyed → ℕ → Type 0
InArea part n = (part.head ≤ n) × (n ≤ part.head + part.area)

-- they are the part's own
abbrev pub IsOwned : Keyed → Owners → Type 0
IsOwned part owners = (n : ℕ) → InArea part n → owners n ≡ Some part.part

-- the key of a record
abbrev pub key_of : Keyed → List ℕ → List ℕ
key_of part bytes = take part.key (drop part.offset bytes)

-- a record has its whole key, and is no longer than the longest
pub record IsValid (part : Keyed) (bytes : List ℕ) : Type 0 where
  pub least : part.offset + part.key ≤ length bytes
  pub most : length bytes ≤ part.most

-- ---- what a block says, whether or not it keeps the rules

-- the entries of a head
abbrev pub entries_of : Block → List Entry
entries_of top = (record_in top).entries

-- where the first range of a record begins: nowhere in the first of a chain, else at its low place
abbrev pub low_in : SequenceSet → Option (List ℕ)
low_in s = if s.first then None else Some s.low

-- the same of a head
abbrev pub low_of : Block → Option (List ℕ)
low_of top = low_in (record_in top)

-- the high place of the last entry
abbrev pub last_high : List Entry → Option (List ℕ)
last_high entries = last_or None (map (λ (entry : Entry). entry.high) entries)

-- the block of the interval of an entry
abbrev pub entry_block : Keyed → Entry → ℕ
entry_block part entry = part.head + 1 + slice_index entry.intervals 0

-- the items of an interval
abbrev pub items_of : Block → List ci.Item
items_of block = items_at (flat_map marks (rdfs_in block (free_end block))) block

-- its records, each at its key
abbrev pub placed : Keyed → ci.Item → Placed
placed part item = (key_of part item.bytes, Standing item.bytes)

abbrev pub records_of : Keyed → Block → Content
records_of part block = map (placed part) (items_of block)

-- ---- what the blocks stand for

-- The block is a head of the part: without an index, each entry with one interval. It may be any of
-- a chain.
pub record IsHead (part : Keyed) (top : Block) : Type 0 where
  pub spelled : IsSequenceSet part.area top (record_in top)
  pub size : length top ≡ part.size
  pub number : (record_in top).part ≡ part.part
  pub key : length (record_in top).low ≡ part.key
  pub index : (record_in top).top ≡ 0
  pub index_area : (record_in top).index_area ≡ None
  pub single : All (λ (entry : Entry). length entry.intervals ≡ 1) (entries_of top)

-- The head has the ends of another: its place in the chain, and where its ranges begin and end.
pub record HasEnds (old new : Block) : Type 0 where
  pub first : (record_in new).first ≡ (record_in old).first
  pub low : (record_in new).low ≡ (record_in old).low
  pub next : (record_in new).next ≡ (record_in old).next
  pub last : last_high (entries_of new) ≡ last_high (entries_of old)

-- a record in an interval: live, and valid
pub record IsKept (part : Keyed) (item : ci.Item) : Type 0 where
  pub live : item.live ≡ true
  pub valid : IsValid part item.bytes

-- The block is an interval of the range: records in the order of their keys, and none beyond the
-- range unless it is busy.
pub record HoldsRange (part : Keyed) (range : Range) (block : Block) : Type 0 where
  pub spelled : ci.IsInterval Plain block (record {
    shape = shapes.Records;
    items =
        items_of block;
    busy = is_busy block;
  })
  pub size : length block ≡ part.size
  pub kept : All (IsKept part) (items_of block)
  pub ascends : IsStrictlySortedBy place_cmp
      (map (λ (item : ci.Item). key_of part item.bytes) (items_of block))
  pub within : is_busy block ≡ false
      → All (λ (item : ci.Item). IsTrue (is_in range (key_of part item.bytes))) (items_of block)

-- each entry's range begins where the one before ends
abbrev pub range_of : Option (List ℕ) → Entry → Range
range_of low entry = record { low = low; high = entry.high }

-- the interval of each entry, from this low place on, is one of its range
abbrev pub HoldRanges : Keyed → Image → Option (List ℕ) → List Entry → Type 0
HoldRanges part image low [] = Unit {0}
HoldRanges part image low (entry ∷ entries) =
    HoldsRange part (range_of low entry) (block_at image (entry_block part entry))
    × HoldRanges part image (Some entry.high) entries

-- the records of a block in a range
abbrev pub records_in : Keyed → Range → Block → Content
records_in part range block =
    filter (λ (entry : Placed). is_in range entry.0) (records_of part block)

-- entry by entry, the records of its interval in its range
abbrev pub content_from : Keyed → Image → Option (List ℕ) → List Entry → Content
content_from part image low [] = []
content_from part image low (entry ∷ entries) =
    records_in part (range_of low entry) (block_at image (entry_block part entry))
    ++ content_from part image (Some entry.high) entries

-- The blocks of the area stand for the content.
pub record KeyedStandsFor (part : Keyed) (image : Image) (content : Content) : Type 0 where
  pub head : IsHead part (block_at image part.head)
  pub intervals : HoldRanges part image (low_of (block_at image part.head))
      (entries_of (block_at image part.head))
  pub records : content ≡ content_from part image (low_of (block_at image part.head))
      (entries_of (block_at image part.head))

-- ---- the way to a place

-- the first entry whose range reaches the place, with the range
abbrev pub entry_for : Option (List ℕ) → List Entry → List ℕ → Option (Range × Entry)
entry_for low [] place = None
entry_for low (entry ∷ entries) place =
    if is_le (place_cmp place entry.high) then Some (range_of low entry, entry) else entry_for
    (Some entry.high) entries place

-- the same for a place above this low one alone: those up to it are of the areas before
abbrev pub entry_above : Option (List ℕ) → List Entry → List ℕ → Option (Range × Entry)
entry_above low entries place = if is_above low place then entry_for low entries place else None

-- the entry of a head whose range holds the place, with the range
abbrev pub entry_in : Block → List ℕ → Option (Range × Entry)
entry_in top place = entry_above (low_of top) (entries_of top) place

abbrev pub way_in : Keyed → List ℕ → Option (Range × Entry) → Way
way_in part place None = Found None
way_in part place (Some found) =
    Reads (entry_block part found.1) (λ block. Found (item_at (records_of part block) place))

-- by way of this head
abbrev pub way_under : Keyed → List ℕ → Block → Way
way_under part place top = way_in part place (entry_in top place)

-- over the head and one interval
abbrev pub area_way : Keyed → List ℕ → Way
area_way part place = Reads part.head (way_under part place)

-- ---- what a crash may leave

-- Each content that a crash may leave of the interval of each entry has Q of its range.
abbrev pub EachMayLeave : Keyed → Seen → Option (List ℕ) → List Entry → (Range → Block → Type 0)
    → Type 0
EachMayLeave part now low [] Q = Unit {0}
EachMayLeave part now low (entry ∷ entries) Q =
    Only now (entry_block part entry) (Q (range_of low entry))
    × EachMayLeave part now (Some entry.high) entries Q

-- A crash leaves heads of the part alone, and of each interval that one of them leads to contents
-- of its range.
pub record IsKeyedSound (part : Keyed) (now : Seen) : Type 0 where
  pub area : part.head + part.area < now.count
  pub size : now.size ≡ part.size
  pub heads : (top : Block) → now.may part.head top → IsHead part top
  pub intervals : (top : Block) → now.may part.head top
      → EachMayLeave part now (low_of top) (entries_of top) (HoldsRange part)

-- Between two events: it leaves the current head alone.
pub record IsKeyedAtRest (part : Keyed) (now : Seen) : Type 0 where
  pub sound : IsKeyedSound part now
  pub one_head : Only now part.head (λ top. top ≡ block_at now.cur part.head)

-- Each head that a crash may leave has the ends of one that it might have left before. So the chain
-- goes on as it did.
abbrev pub KeepsEnds : Keyed → Seen → Seen → Type 0
KeepsEnds part old new = (top : Block) → new.may part.head top
    → (before : Block) × old.may part.head before × HasEnds before top

-- ---- room

-- the lengths of the records of a block in a range, and what is kept there, each place once
abbrev pub length_of : Placed → List ℕ × ℕ
length_of (place, Standing bytes) = (place, length bytes)
length_of (place, Rattle.vr_types.specs.Content.Item.Withdrawn n) = (place, n)

abbrev pub lengths_of : Keyed → Lengths → Range → Block → Lengths
lengths_of part kept range block =
    with_lengths (map length_of (records_in part range block)) (lengths_in range kept)

-- What is kept is kept for places of the part, and whatever a crash leaves of an interval, what is
-- kept for its range has room beside it.
pub record KeepsRoom (part : Keyed) (kept : Lengths) (now : Seen) : Type 0 where
  pub places : All (λ (entry : List ℕ × ℕ). length entry.0 ≡ part.key) kept
  pub each : (top : Block) → now.may part.head top
      → EachMayLeave part now (low_of top) (entries_of top)
      (λ range block. HaveRoom part.size (lengths_of part kept range block))

-- In an image: what is kept for the range of each interval has room beside what it has.
abbrev pub HaveRooms : Keyed → Lengths → Image → Option (List ℕ) → List Entry → Type 0
HaveRooms part kept image low [] = Unit {0}
HaveRooms part kept image low (entry ∷ entries) =
    HaveRoom part.size
    (lengths_of part kept (range_of low entry) (block_at image (entry_block part entry)))
    × HaveRooms part kept image (Some entry.high) entries
