-- What is kept of the intervals that were met last. The rules are this project's own.
use Rattle.std.specs.Prelude.{◌≡◌, ◌⊎◌, ◌+◌, ◌<◌, ◌≤◌, ℕ, Bool, true, false, List, ◌∷◌, Option}
use Rattle.std.specs.Prelude.{Some, None, All, Contains, IsTrue, length, map, take, vec_len}
use Rattle.vr_types.specs.Image.{Block, Image}
use Rattle.vr_seqset.specs.Entry.{Entry}
use Rattle.vr_space.specs.Keyed.{InArea, Keyed, entry_block, entry_in}
use Rattle.vr_space.specs.Met.{IsMet, Met}
use Rattle.vr_keyed.specs.declared.slot.Slot.{Slot}
use Rattle.vr_keyed.specs.declared.slots.Slots.{Slots}

-- the low place of a range, where it has one
abbrev pub low_kept : Bool → List ℕ → Option (List ℕ)
low_kept true low = None
low_kept false low = Some low

-- what a slot keeps
abbrev pub met_in : Slot → Met
met_in slot = record {
  place = slot.place.place;
  range = record { low = low_kept slot.from_start slot.low.place; high = slot.high.place };
  number = slot.number;
  block = slot.bytes.items;
}

-- It has room for places and for a block of the part.
pub record IsSlotOf (part : Keyed) (slot : Slot) : Type 0 where
  pub place : slot.place.room ≡ part.key
  pub low : slot.low.room ≡ part.key
  pub high : slot.high.room ≡ part.key
  pub bytes : vec_len slot.bytes ≡ part.size

-- it has a block of this size
abbrev pub HasBytes : ℕ → Slot → Type 0
HasBytes n slot = vec_len slot.bytes ≡ n

-- The head leads from the place to the block, by an entry of the range.
pub record IsLed (part : Keyed) (top : Block) (slot : Slot) : Type 0 where
  pub entry : Entry
  pub leads : entry_in top slot.place.place ≡ Some ((met_in slot).range, entry)
  pub number : entry_block part entry ≡ slot.number

-- the intervals that were met and are kept, the last one first
abbrev pub mets : Slots → List Met
mets slots = take slots.filled (met_in slots.first ∷ map met_in slots.more.items)

-- how many of them may be kept
abbrev pub most_kept : Slots → ℕ
most_kept slots = length slots.more.items + 1

-- the places of intervals that were met
abbrev pub met_places : List Met → List (List ℕ)
met_places met = map (λ (one : Met). one.place) met

-- a place of one of them
abbrev pub HasMetPlace : List Met → List ℕ → Type 0
HasMetPlace met place = Contains (met_places met) place

pub record AreSlotsOf (part : Keyed) (slots : Slots) : Type 0 where
  pub first : IsSlotOf part slots.first
  pub more : All (IsSlotOf part) slots.more.items

-- the place is the one that was met last
pub record IsFirst (place : List ℕ) (slots : Slots) : Type 0 where
  pub some : 0 < slots.filled
  pub here : slots.first.place.place ≡ place

-- ---- what was met of the place that a call is for

-- what was met of this place, if it was, is a block of the area
abbrev pub IsInside : Keyed → List ℕ → Met → Type 0
IsInside part place met = met.place ≡ place → InArea part met.number

-- and the head leads to it, which still has what it had
abbrev pub IsMetAt : Keyed → Image → List ℕ → Met → Type 0
IsMetAt part image place met = met.place ≡ place → IsMet part image met

-- The interval of the place, as it is met now.
pub record IsNewlyMet (part : Keyed) (tells : Bool) (image : Image) (place : List ℕ) (met : Met)
    : Type 0 where
  pub place_is : met.place ≡ place
  pub inside : InArea part met.number
  pub is_met : IsTrue tells → IsMet part image met

-- What is left of what was met by a call that meets the interval of the place: each was met before,
-- or is that interval.
abbrev pub LeavesMet : Keyed → Bool → Image → List ℕ → List Met → List Met → Type 0
LeavesMet part tells image place old new =
    All (λ (one : Met). Contains old one ⊎ IsNewlyMet part tells image place one) new

-- each interval that was met still is, with what it had
abbrev pub KeepsAll : List Met → List Met → Type 0
KeepsAll old new = (one : Met) → Contains old one → Contains new one

-- each place that was met still is
abbrev pub KeepsPlaces : List Met → List Met → Type 0
KeepsPlaces old new = (place : List ℕ) → HasMetPlace old place → HasMetPlace new place

-- The place is met, with one interval more at most. Each that was met still is, where the place was
-- among them, or fewer were met than may be kept.
pub record MeetsOne (place : List ℕ) (old new : Slots) : Type 0 where
  pub here : HasMetPlace (mets new) place
  pub many : length (mets new) ≤ length (mets old) + 1
  pub known : HasMetPlace (mets old) place → KeepsAll (mets old) (mets new)
  pub kept : length (mets old) < most_kept old → KeepsAll (mets old) (mets new)
  pub most : most_kept new ≡ most_kept old

-- The interval of the place is the one that was met last.
pub record MeetsAt (part : Keyed) (tells : Bool) (image : Image) (place : List ℕ) (old new : Slots)
    : Type 0 where
  pub first : IsFirst place new
  pub newly : IsNewlyMet part tells image place (met_in new.first)
  pub meets : MeetsOne place old new
