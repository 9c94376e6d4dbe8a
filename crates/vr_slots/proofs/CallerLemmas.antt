-- What the crates above cite: how many slots an interval has, and what an empty one has.
use Rattle.std.proofs.Common.{◌≡◌, ℕ, None, ap, ◌∙◌, arith, length, replicate, ⊎_elim}
use Rattle.std.specs.Prelude.{Some, option_and_then, slice_get}
use Rattle.std.proofs.lemmas.Bool.{cases_lt}
use Rattle.std.proofs.lemmas.List.{get_or-replicate, length-replicate}
use Rattle.std.proofs.lemmas.Option.{slice_get-get_or, slice_get_past}
use Rattle.vr_types.specs.Image.{Block}
use Rattle.vr_ci.specs.Interval as ci
use Rattle.vr_space.specs.Keyed.{items_of}
use Rattle.vr_space.specs.Rosters.{Numbered}
use Rattle.vr_space.specs.Slots.{slot_item, slots_of, standing_in}
use Rattle.vr_slots.specs.Slot.{AreSlotsEmpty, empty_slot}
pub use Rattle.vr_slots.proofs.ReadingSlots.{slots-items}

-- each of so many empty slots has no record, nor has one past them
empty-at : (part : Numbered) (count slot : ℕ)
    → slot_item slot (replicate count (empty_slot part)) ≡ None
empty-at part count slot = ⊎_elim
    (λ within. ap (option_and_then standing_in)
    (slice_get-get_or (replicate count one) slot one
    (omega (arith, within, length-replicate count one))
    ∙ ap (λ (item : ci.Item). Some item) (get_or-replicate count slot one one within)))
    (λ past. ap (option_and_then standing_in) (slice_get_past (replicate count one) slot
    (omega (arith, past, length-replicate count one))))
    (cases_lt slot count)
  where
    one : ci.Item
    one = empty_slot part

-- no slot of an empty interval has a record
pub empty-slot : {part : Numbered} {block : Block} → AreSlotsEmpty part block → (slot : ℕ)
    → slot_item slot (items_of block) ≡ None
empty-slot {part} {block} empty slot =
    ap (slot_item slot) empty.items ∙ empty-at part (slots_of part) slot
