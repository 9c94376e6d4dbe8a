-- What a call that puts into one area of a keyed part leaves of it, whichever other areas its part
-- has: its heads keep their ends, so the chain stays, and what each place of the area may hold is
-- said of the way over its head and one interval. The rules are this project's own.
use Rattle.std.specs.Prelude.{◌≡◌, ◌≢◌, ◌⊎◌, ◌+◌, ◌<◌, ℕ, Bool, true, false, List, Option, None}
use Rattle.std.specs.Prelude.{Contains, IsTrue, option_and_then}
use Rattle.std.specs.Option.{option_map}
use Rattle.std.specs.declared.cmp.Ordering.TheVariants.{Less}
use Rattle.vr_types.specs.Content.{Item, place_cmp, record_of}
use Rattle.vr_types.specs.Content.Item.{Standing}
use Rattle.vr_types.specs.Image.{Block, Image, block_at}
use Rattle.vr_types.specs.Regions.{Touches}
use Rattle.vr_types.specs.Seen.{Seen}
use Rattle.vr_types.specs.declared.unit.PartNo.{PartNo}
use Rattle.vr_space.specs.declared.whence.Whence.{Whence}
use Rattle.vr_space.specs.Whence.{allows}
use Rattle.vr_space.specs.Way.{MayFind, MayOnceForced, found_on}
use Rattle.vr_space.specs.Room.{Lengths}
use Rattle.vr_space.specs.Keyed.{HasEnds, HaveRooms, HoldRanges, InArea, IsHead, IsKeyedSound}
use Rattle.vr_space.specs.Keyed.{KeepsEnds, Keyed, area_way, entries_of, low_of}

-- the blocks of the area are there, with their size
abbrev pub IsAreaOn : Keyed → Seen → Type 0
IsAreaOn part now = (part.head + part.area < now.count) × (now.size ≡ part.size)

-- the item at a place of the area
abbrev pub item_here : Keyed → Image → List ℕ → Option Item
item_here part image place = found_on image (area_way part place)

-- a crash may leave this item, or none, there
abbrev pub MayHoldHere : Keyed → (ℕ → Block → Type 0) → List ℕ → Option Item → Type 0
MayHoldHere part may place item = MayFind may item (area_way part place)

-- what might be held before, and also what A allows
abbrev pub MayAlsoHoldHere : Keyed → (ℕ → Block → Type 0) → (List ℕ → Option Item → Type 0)
    → List ℕ → Option Item → Type 0
MayAlsoHoldHere part may A place item = MayHoldHere part may place item ⊎ A place item

-- The image has the area in order, with the ends of a head that might be left before, and each
-- place of it what O allows.
pub record HasHere (part : Keyed) (old : Seen) (O : List ℕ → Option Item
    → Type 0) (image : Image) : Type 0 where
  pub head : IsHead part (block_at image part.head)
  pub intervals : HoldRanges part image (low_of (block_at image part.head))
      (entries_of (block_at image part.head))
  pub before : Block
  pub allowed : old.may part.head before
  pub ends : HasEnds before (block_at image part.head)
  pub each : (place : List ℕ) → O place (item_here part image place)

-- Calls that put into the area alone made `new` of `old`, and added at most what A allows to what
-- its places may hold: in each image of each of their moments, whether they failed or not, and from
-- then on.
pub record AddsHere (part : Keyed) (A : List ℕ → Option Item → Type 0) (old new : Seen) : Type 0
  where
    pub touches : Touches (InArea part) (HasHere part old (MayAlsoHoldHere part old.may A)) old new
    pub rest : (place : List ℕ) (item : Option Item) → MayHoldHere part new.may place item
        → MayAlsoHoldHere part old.may A place item
    pub sound : IsKeyedSound part new
    pub ends : KeepsEnds part old new

-- each place of the area has the item that it had
abbrev pub SameHere : Keyed → Image → Image → Type 0
SameHere part old new = (place : List ℕ) → item_here part new place ≡ item_here part old place

-- this place was given this record, or its own was taken away, and each other has what it had
pub record SetsHere (part : Keyed) (at : List ℕ) (bytes : Option (List ℕ)) (old new : Image)
    : Type 0
  where
    pub here : item_here part new at ≡ option_map Standing bytes
    pub others : (place : List ℕ) → place ≢ at
        → item_here part new place ≡ item_here part old place

-- once the listed blocks are forced, a crash leaves the current item alone at the place
abbrev pub IsDueHere : Keyed → List ℕ → Seen → List ℕ → Type 0
IsDueHere part listed now place =
    (item : Option Item) → MayFind (MayOnceForced listed now) item (area_way part place)
    → item ≡ item_here part now.cur place

-- what has to be forced for a place is what had to be, and these blocks
abbrev pub DueMoreHere : Keyed → List ℕ → Seen → Seen → Type 0
DueMoreHere part put old new = (listed : List ℕ) (place : List ℕ) → IsDueHere part listed old place
    → ((n : ℕ) → Contains put n → Contains listed n) → IsDueHere part listed new place

-- the same of a record set at one place: for each other place only what had to be
abbrev pub DueMoreAtHere : Keyed → List ℕ → List ℕ → Seen → Seen → Type 0
DueMoreAtHere part at put old new = (listed : List ℕ) (place : List ℕ)
    → IsDueHere part listed old place
    → ((place ≢ at) ⊎ ((n : ℕ) → Contains put n → Contains listed n))
    → IsDueHere part listed new place

-- the image has room in the area for what is kept
abbrev pub HasRoomHere : Keyed → Lengths → Image → Type 0
HasRoomHere part kept image = HaveRooms part kept image (low_of (block_at image part.head))
    (entries_of (block_at image part.head))

-- the number of the part that the area is of
abbrev pub area_part : Keyed → PartNo
area_part part = record { 0 = part.part }

-- the record that is read at a place of the area
abbrev pub read_here : Keyed → Image → List ℕ → Option (List ℕ)
read_here part image place = option_and_then record_of (item_here part image place)

-- The place is the least of the area with a record that the search may find.
pub record IsNextHere (part : Keyed) (image : Image) (from : Whence) (place : List ℕ) : Type 0
  where
    pub allowed : IsTrue (allows from place)
    pub some : read_here part image place ≢ None
    pub least : (other : List ℕ) → IsTrue (allows from other) → place_cmp other place ≡ Less
        → read_here part image other ≡ None

-- or there is none
abbrev pub NextHere : Keyed → Image → Whence → Bool → List ℕ → Type 0
NextHere part image from true place = IsNextHere part image from place
NextHere part image from false place =
    (other : List ℕ) → IsTrue (allows from other) → read_here part image other ≡ None
