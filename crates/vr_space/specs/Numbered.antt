-- The blocks of an entry-sequenced or relative part: the intervals of a chain of rosters. The place
-- of a record is a number in four bytes: its relative byte address, or that of its slot (DFSMS
-- Using Data Sets). What a crash may leave of the blocks is this project's own rule.
use Rattle.std.specs.Prelude.{◌≡◌, ◌≢◌, ℕ, zero, suc, ◌+◌, ◌-◌, ◌*◌, ◌/◌, ◌%◌, ◌<◌, ◌≤◌, Bool, true}
use Rattle.std.specs.Prelude.{false, List, [], ◌++◌, length, All, Option, Some, None, ◌&&◌}
use Rattle.std.specs.Prelude.{IsTrue, nat_eq, nat_lt, nat_le, slice_index, if◌then◌else◌, bytes_eq}
use Rattle.std.specs.Int.{w32, from_be_bytes, div_ceil}
use Rattle.std.specs.Option.{option_map}
use Rattle.vr_types.specs.Content.{Content, Item}
use Rattle.vr_types.specs.Content.Item.{Standing, Withdrawn}
use Rattle.vr_types.specs.Fields.{four}
use Rattle.vr_types.specs.Geometry.{area_count}
use Rattle.vr_types.specs.Image.{Block, Image, block_at}
use Rattle.vr_types.specs.Seen.{Seen}
use Rattle.vr_types.specs.declared.unit.StageKind.TheVariants.{Extend}
use Rattle.vr_ci.specs.Interval as ci
use Rattle.vr_space.specs.Entries.{IsEntries, Tail, address_after, bytes_in, entries_from}
use Rattle.vr_space.specs.Entries.{entry_item, item_length}
use Rattle.vr_space.specs.Keyed.{items_of}
use Rattle.vr_space.specs.Known.{Known}
use Rattle.vr_space.specs.Met.{Met}
use Rattle.vr_space.specs.Owners.{Owners}
use Rattle.vr_space.specs.Room.{Lengths}
use Rattle.vr_space.specs.Rosters.{HasInterval, IsChained, IsNumbered, IsOf, IsOwnArea, Numbered}
use Rattle.vr_space.specs.Rosters.{after_next, chain_of, interval_in, interval_way, roster_at}
use Rattle.vr_space.specs.Rosters.{roster_block, used_of}
use Rattle.vr_space.specs.Slots.{IsSlots, records_from, slot_item, slots_of}
use Rattle.vr_space.specs.UnderWay.{IsStable}
use Rattle.vr_space.specs.Way.{Way, Found, Reads, found_on}
use Rattle.vr_space.specs.declared.room.Room as answer
use Rattle.vr_space.specs.declared.room.Room.TheVariants.{Ready, Stage, NoSpace}

-- ---- places

-- the number at a place
abbrev pub number_of : List ℕ → ℕ
number_of place = from_be_bytes w32 place

-- Slots are numbered from 1, bytes from 0; and an interval has as many numbers as slots, or as
-- bytes.
abbrev pub start_by : Bool → ℕ
start_by true = 1
start_by false = 0

abbrev pub start_of : Numbered → ℕ
start_of part = start_by part.relative

abbrev pub span_by : Bool → Numbered → ℕ
span_by true part = slots_of part
span_by false part = part.geometry.size

abbrev pub span_of : Numbered → ℕ
span_of part = span_by part.relative part

-- a place is such a number in four bytes
pub record IsNumberPlace (part : Numbered) (place : List ℕ) : Type 0 where
  pub bytes : place ≡ four (number_of place)
  pub some : start_of part ≤ number_of place

abbrev pub is_number_place : Numbered → List ℕ → Bool
is_number_place part place =
    bytes_eq place (four (number_of place)) && nat_le (start_of part) (number_of place)

-- the interval of a place, counted from 0 over all of the part, and where in it the place is: which
-- of its slots, or which of its bytes
abbrev pub interval_of : Numbered → List ℕ → ℕ
interval_of part place = (number_of place - start_of part) / span_of part

abbrev pub at_in : Numbered → List ℕ → ℕ
at_in part place = (number_of place - start_of part) % span_of part

-- a length that a record of the part may have
abbrev pub IsNumberedLength : Bool → ℕ → ℕ → Type 0
IsNumberedLength true most n = n ≡ most
IsNumberedLength false most n = (0 < n) × (n ≤ most)

-- a record that may stand at a place
pub record IsNumberedRecord (part : Numbered) (place bytes : List ℕ) : Type 0 where
  pub numbered : IsNumberPlace part place
  pub whole : IsNumberedLength part.relative part.most (length bytes)

-- ---- what the blocks stand for

-- the block is an interval of slots, or of records one after another
abbrev pub IsFilledBy : Bool → Numbered → Block → Type 0
IsFilledBy true part block = IsSlots part block
IsFilledBy false part block = IsEntries part block

abbrev pub IsFilled : Numbered → Block → Type 0
IsFilled part block = IsFilledBy part.relative part block

-- what the items of an interval are, the first of whose places has this number
abbrev pub items_by : Bool → ℕ → List ci.Item → Content
items_by true number items = records_from number items
items_by false number items = entries_from number items

-- those of so many intervals, block after block
abbrev pub items_over : Numbered → Image → ℕ → ℕ → ℕ → Content
items_over part image number n zero = []
items_over part image number n (suc k) =
    items_by part.relative number (items_of (block_at image n))
    ++ items_over part image (number + span_of part) (suc n) k

-- those of a chain of at most so many areas, from one on
abbrev pub items_from : Numbered → Image → ℕ → ℕ → ℕ → Content
items_from part image zero number area = []
items_from part image (suc k) number area =
    items_over part image number (interval_in part area 0) (roster_at part image area).used
    ++ after_next []
    (items_from part image k (number + (roster_at part image area).used * span_of part))
    (roster_at part image area).next

-- The blocks stand for the content: what the intervals have, in the order of the chain.
pub record NumberedStandsFor (part : Numbered) (image : Image) (content : Content) : Type 0 where
  pub part_is : IsNumbered part
  pub chain : IsChained part (λ area. area < area_count part.geometry) (IsFilled part) (IsOf image)
  pub records : content
      ≡ items_from part image (area_count part.geometry) (start_of part) part.first

-- ---- the way to a place

-- what an interval has at one of its slots, or from one of its bytes on
abbrev pub item_by : Bool → ℕ → List ci.Item → Option Item
item_by true at items = slot_item at items
item_by false at items = entry_item at items

abbrev pub item_in : Numbered → ℕ → Block → Option Item
item_in part at block = item_by part.relative at (items_of block)

abbrev pub item_read : Numbered → ℕ → ℕ → Way
item_read part at n = Reads n (λ block. Found (item_in part at block))

-- over the rosters and one interval; at what is no number there is nothing
abbrev pub numbered_way : Numbered → List ℕ → Way
numbered_way part place =
    if is_number_place part place then interval_way part (item_read part (at_in part place))
    (interval_of part place) else Found None

-- What a call leaves where an item is, or none, as it gives a record to the place, or takes the one
-- there away: a record that is taken out of an entry-sequenced part is withdrawn.
abbrev pub withdrawn : Item → Item
withdrawn item = Withdrawn (item_length item)

abbrev pub left_in : Bool → Option Item → Option (List ℕ) → Option Item
left_in true now bytes = option_map Standing bytes
left_in false now None = option_map withdrawn now
left_in false now (Some bytes) = Some (Standing bytes)

-- ---- what a crash may leave

-- the volume has the part's blocks, with their size
pub record IsNumberedOn (part : Numbered) (now : Seen) : Type 0 where
  pub part_is : IsNumbered part
  pub blocks : part.geometry.blocks ≤ now.count
  pub size : now.size ≡ part.geometry.size

-- A crash leaves rosters of the part alone, each of which leads on through areas of its own, and of
-- each interval that is used by one of them what the part's intervals are alone.
pub record IsNumberedSound (part : Numbered) (owners : Owners) (now : Seen) : Type 0 where
  pub on : IsNumberedOn part now
  pub chain : IsChained part (IsOwnArea part owners) (IsFilled part) now.may

-- an area of the part's own of whose roster a crash leaves the current content alone
pub record IsRestingArea (part : Numbered) (owners : Owners) (now : Seen) (area : ℕ) : Type 0 where
  pub own : IsOwnArea part owners area
  pub roster : IsStable now (roster_block part area)

-- Between two events: it leaves the current rosters alone.
pub record IsNumberedAtRest (part : Numbered) (owners : Owners) (now : Seen) : Type 0 where
  pub on : IsNumberedOn part now
  pub chain : IsChained part (IsRestingArea part owners now) (IsFilled part) now.may

-- the image leads to areas of the part's own alone
abbrev pub NumberedStaysIn : Numbered → Owners → Image → Type 0
NumberedStaysIn part owners image =
    IsChained part (IsOwnArea part owners) (IsFilled part) (IsOf image)

-- ---- room

-- a record of an entry-sequenced part keeps its length
abbrev pub HasLengthBy : Bool → ℕ → ℕ → Block → Type 0
HasLengthBy true at n block = Unit {0}
HasLengthBy false at n block = option_map item_length (entry_item at (items_of block)) ≡ Some n

-- Each place for which a record is kept has its interval, whatever a crash leaves of the rosters;
-- and in an entry-sequenced part an item of that length is there.
pub record HasKeptPlace (part : Numbered) (may : ℕ → Block → Type 0) (entry : List ℕ × ℕ) : Type 0
  where
    pub place : IsNumberPlace part entry.0
    pub interval : HasInterval part
        (HasLengthBy part.relative (at_in part entry.0) entry.1) may (area_count part.geometry)
        (interval_of part entry.0) part.first

abbrev pub KeepsNumbered : Numbered → Lengths → (ℕ → Block → Type 0) → Type 0
KeepsNumbered part kept may = All (HasKeptPlace part may) kept

-- a length that a record may have where one of that length is kept
abbrev pub IsKeptLength : Bool → ℕ → ℕ → Type 0
IsKeptLength true kept n = n ≤ kept
IsKeptLength false kept n = n ≡ kept

-- the interval of a place is in the chain
abbrev pub has_interval : Numbered → Image → List ℕ → Bool
has_interval part image place = nat_lt (interval_of part place) (used_of part image)

-- A slot takes each record. Where an item of an entry-sequenced part is, a record takes its place
-- that has its length; and where none is, the place is that of the next record.
abbrev pub takes : Bool → Option Item → ℕ → Bool → Bool
takes true item n next = true
takes false (Some item) n next = nat_eq (item_length item) n
takes false None n next = next

abbrev pub numbered_fits : Numbered → Option Tail → Image → List ℕ → ℕ → Bool
numbered_fits part tail image place n =
    has_interval part image place
    && takes part.relative (found_on image (numbered_way part place)) n
    (bytes_eq place (four (address_after part tail n)))

-- the areas that the interval of that number needs beside those of the chain
abbrev pub areas_short : Numbered → Image → ℕ → ℕ
areas_short part image interval =
    div_ceil (interval + 1) part.geometry.area - length (chain_of part image)

-- by whether it fits, and whether its interval is in the chain
abbrev pub chain_room_by : Bool → Bool → ℕ → ℕ → answer.Room
chain_room_by true used need free = Ready
chain_room_by false true need free = NoSpace need free
chain_room_by false false need free =
    if nat_le need free then Stage Extend else NoSpace need free

-- What stands in the way of a record at a place: that its interval isn't in the chain yet, where
-- there are areas enough for it; or that there aren't. In an interval that the chain has, no area
-- helps a record that doesn't fit.
abbrev pub numbered_room : Numbered → Option Tail → Image → ℕ → List ℕ → ℕ → answer.Room
numbered_room part tail image free place n =
    chain_room_by (numbered_fits part tail image place n) (has_interval part image place)
    (areas_short part image (interval_of part place)) free

-- ---- what is kept in memory

-- the block of the interval of that number, by the areas of the chain
abbrev pub chain_block : Numbered → List ℕ → ℕ → ℕ
chain_block part areas interval =
    interval_in part (slice_index areas (interval / part.geometry.area))
    (interval % part.geometry.area)

-- the items of the interval of that number
abbrev pub items_at : Numbered → Image → ℕ → List ci.Item
items_at part image interval =
    items_of (block_at image (chain_block part (chain_of part image) interval))

-- What was met of a place: where its interval is in the chain, the block of that, which still has
-- what it had.
abbrev pub IsIntervalMet : Numbered → Image → Met → Type 0
IsIntervalMet part image met = IsTrue (has_interval part image met.place)
    → (met.number ≡ chain_block part (chain_of part image) (interval_of part met.place))
    × (block_at image met.number ≡ met.block)

-- the intervals from this one on have no item
abbrev pub AreEmptyFrom : Numbered → Image → ℕ → Type 0
AreEmptyFrom part image from = (interval : ℕ) → from ≤ interval → interval < used_of part image
    → items_at part image interval ≡ []

-- the last interval with an item, and what its items take
pub record IsTail (part : Numbered) (image : Image) (tail : Tail) : Type 0 where
  pub used : tail.interval < used_of part image
  pub some : items_at part image tail.interval ≢ []
  pub bytes : tail.bytes ≡ bytes_in (items_at part image tail.interval)
  pub room : tail.room ≡ ci.room (items_at part image tail.interval)
  pub after : AreEmptyFrom part image (suc tail.interval)

abbrev pub IsTailOf : Numbered → Image → Option Tail → Type 0
IsTailOf part image None = AreEmptyFrom part image 0
IsTailOf part image (Some tail) = IsTail part image tail

-- a relative part has no need of it
abbrev pub KnowsTail : Bool → Numbered → Image → Option Tail → Type 0
KnowsTail true part image tail = tail ≡ None
KnowsTail false part image tail = IsTailOf part image tail

-- the areas of the chain, and how many of their intervals are used
pub record HasChain (part : Numbered) (known : Known) (image : Image) : Type 0 where
  pub areas : known.areas ≡ chain_of part image
  pub used : known.used ≡ used_of part image

-- the chain, where the last item ends, and what was met
pub record KnowsChain (part : Numbered) (known : Known) (image : Image) : Type 0 where
  pub chain : HasChain part known image
  pub tail : KnowsTail part.relative part image known.tail
  pub met : All (IsIntervalMet part image) known.met

-- the address that a record of this length gets
abbrev pub address_by : Bool → Numbered → Option Tail → ℕ → Option ℕ
address_by true part tail n = None
address_by false part tail n = Some (address_after part tail n)
