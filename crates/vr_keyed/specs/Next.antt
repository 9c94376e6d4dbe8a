-- Searching for the next place with a record. The rules are this project's own.
use Rattle.std.specs.Prelude.{◌≡◌, ◌⊎◌, ◌≤◌, ℕ, Bool, IsTrue, true, false, ◌&&◌, List}
use Rattle.std.specs.Prelude.{Option, Some, None, All, filter, length, slice_get}
use Rattle.std.specs.List.{position}
use Rattle.std.specs.declared.cmp.Ordering.TheVariants.{Less}
use Rattle.vr_types.specs.Content.{place_cmp}
use Rattle.vr_types.specs.Image.{Block, Image, block_at}
use Rattle.vr_seqset.specs.Entry.{Entry}
use Rattle.vr_seqset.specs.Search.{reaches}
use Rattle.vr_space.specs.declared.whence.Whence.{Whence}
use Rattle.vr_space.specs.Whence.{allows, first_of}
use Rattle.vr_space.specs.Room.{Range, is_in}
use Rattle.vr_space.specs.Keyed.{Keyed, entries_of, entry_block, low_of, range_of}
use Rattle.vr_space.specs.Search.{low_before, keys_of}
use Rattle.vr_keyed.specs.declared.slot.Slot.{Slot}
use Rattle.vr_keyed.specs.Slots.{met_in}

-- a place of the range that the search may find
abbrev pub is_sought : Range → Whence → List ℕ → Bool
is_sought range from place = is_in range place && allows from place

-- the first of these places that is one
abbrev pub first_sought : Range → Whence → List (List ℕ) → Option (List ℕ)
first_sought range from places = first_of (filter (is_sought range from) places)

-- whether one was found, and which
abbrev pub FoundIs : Option (List ℕ) → Bool → List ℕ → Type 0
FoundIs first true place = first ≡ Some place
FoundIs first false place = first ≡ None

-- The slot has the range and the block of the entry of a number.
pub record IsNth (part : Keyed) (top : Block) (n : ℕ) (slot : Slot) : Type 0 where
  pub entry : Entry
  pub is : slice_get (entries_of top) n ≡ Some entry
  pub range : (met_in slot).range ≡ range_of (low_before (low_of top) (entries_of top) n) entry
  pub number : entry_block part entry ≡ slot.number

-- or there is no such entry
abbrev pub NthIs : Keyed → Block → ℕ → Bool → Slot → Type 0
NthIs part top n true slot = IsNth part top n slot
NthIs part top n false slot = length (entries_of top) ≤ n

-- No entry of a lower number holds a place that the search may find.
abbrev pub IsStart : Block → Whence → ℕ → Type 0
IsStart top from n = (place : List ℕ) (i : ℕ) → IsTrue (allows from place)
    → position (reaches place) (entries_of top) ≡ Some i → n ≤ i

-- The place is the first that is sought in the interval of the entry of a number, or there is none
-- in it, or no such entry.
pub record HasNth (part : Keyed) (image : Image) (n : ℕ) (from : Whence)
    (first : Option (List ℕ)) : Type 0 where
  pub entry : Entry
  pub is : slice_get (entries_of (block_at image part.head)) n ≡ Some entry
  pub first_is : first_sought
      (range_of (low_before (low_of (block_at image part.head))
      (entries_of (block_at image part.head)) n) entry) from
      (keys_of part (block_at image (entry_block part entry))) ≡ first

abbrev pub NextNth : Keyed → Image → ℕ → Whence → Bool → List ℕ → Type 0
NextNth part image n from true place = HasNth part image n from (Some place)
NextNth part image n from false place = HasNth part image n from None
    ⊎ (length (entries_of (block_at image part.head)) ≤ n)

-- Areas with these ends have no place that the search may find: each such place is past the ends.
abbrev pub AreBefore : Whence → List (List ℕ) → Type 0
AreBefore from ends = (place : List ℕ) → IsTrue (allows from place)
    → All (λ (end : List ℕ). place_cmp end place ≡ Less) ends
