-- What is read of an interval of slots, and what is written: one with a slot set or made empty, or
-- with all of them empty. The rules are this project's own.
use Rattle.std.specs.Prelude.{◌≡◌, ◌≢◌, ◌≤◌, ◌<◌, ◌+◌, ◌-◌, ℕ, Bool, true, false, List, length}
use Rattle.std.specs.Prelude.{Option, Some, None, replicate, slice_set}
use Rattle.std.specs.List.{AllByRecursion}
use Rattle.std.specs.Option.{option_map}
use Rattle.vr_types.specs.Content.Item.{Standing}
use Rattle.vr_types.specs.Image.{Block}
use Rattle.vr_ci_match.specs.declared.form.Shape.TheVariants as shapes
use Rattle.vr_ci.specs.Interval as ci
use Rattle.vr_ci.specs.declared.writer.CiWriter.{CiWriter}
use Rattle.vr_ci.specs.Writer.{Holds, size_of}
use Rattle.vr_space.specs.Keyed.{items_of}
use Rattle.vr_space.specs.Rosters.{Numbered}
use Rattle.vr_space.specs.Slots.{IsSlots, slot_item, slots_of}

-- an interval of records or slots that isn't busy
pub record IsOfRecords (value : ci.Interval) : Type 0 where
  pub shape : value.shape ≡ shapes.Records
  pub idle : value.busy ≡ false

-- The slot is the first one with a record, from another on.
pub record IsFirstLive (part : Numbered) (block : Block) (from slot : ℕ) : Type 0 where
  pub from_is : from ≤ slot
  pub below_is : slot < slots_of part
  pub some : slot_item slot (items_of block) ≢ None
  pub none : (other : ℕ) → from ≤ other → other < slot → slot_item other (items_of block) ≡ None

-- the slots of an interval of the part, as many as it has
pub record AreSlotItems (part : Numbered) (items : List ci.Item) : Type 0 where
  pub each : AllByRecursion ci.IsItem items
  pub whole : AllByRecursion (λ (item : ci.Item). length item.bytes ≡ part.most) items
  pub count : length items ≡ slots_of part

-- A slot has a byte at least, and one more has room in what is written.
pub record HasSlotRoom (part : Numbered) (w : CiWriter) : Type 0 where
  pub some : 0 < part.most
  pub items : List ci.Item
  pub holds : Holds w items
  pub room : ci.room items + (part.most + 3) ≤ size_of w - 4

-- a slot without a record
abbrev pub empty_slot : Numbered → ci.Item
empty_slot part = record { bytes = replicate part.most 0; live = false }

-- what a slot is made: a record, or empty
abbrev pub slot_given : Numbered → Option (List ℕ) → ci.Item
slot_given part None = empty_slot part
slot_given part (Some bytes) = record { bytes = bytes; live = true }

-- the slot itself, or what is made of it
abbrev pub slot_made : Numbered → Bool → Option (List ℕ) → ci.Item → ci.Item
slot_made part false bytes item = item
slot_made part true bytes item = slot_given part bytes

-- The block is one of slots: those of another, with this one set or made empty. So the slot has
-- what is given, where the interval has it, and each other what it had.
pub record IsSlotSet (part : Numbered) (slot : ℕ) (bytes : Option (List ℕ)) (old new : Block)
    : Type 0 where
  pub slots : IsSlots part new
  pub items : items_of new ≡ slice_set (items_of old) slot (slot_given part bytes)
  pub here : slot < slots_of part
      → slot_item slot (items_of new) ≡ option_map Standing bytes
  pub others : (other : ℕ) → other ≢ slot
      → slot_item other (items_of new) ≡ slot_item other (items_of old)

-- The block is one of slots, each of them empty.
pub record AreSlotsEmpty (part : Numbered) (new : Block) : Type 0 where
  pub slots : IsSlots part new
  pub items : items_of new ≡ replicate (slots_of part) (empty_slot part)
