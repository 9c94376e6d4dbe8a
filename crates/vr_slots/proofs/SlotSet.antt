-- An interval with one slot set: what each of its slots has.
use Rattle.std.proofs.Common.{◌≡◌, ◌≢◌, ◌<◌, ℕ, List, length, Option, Some, None, refl, sym, ap}
use Rattle.std.proofs.Common.{◌∙◌, arith, ⊎_elim}
use Rattle.std.specs.Prelude.{option_and_then, slice_get, slice_set}
use Rattle.std.specs.Option.{option_map}
use Rattle.std.proofs.lemmas.Bool.{cases_lt}
use Rattle.std.proofs.lemmas.List.{get_or-set_other, get_or-set_same, length-set}
use Rattle.std.proofs.lemmas.Option.{slice_get-get_or, slice_get_past}
use Rattle.vr_types.specs.Content.Item.{Standing}
use Rattle.vr_ci.specs.Interval as ci
use Rattle.vr_space.specs.Rosters.{Numbered}
use Rattle.vr_space.specs.Slots.{slot_item, standing_in}
use Rattle.vr_slots.specs.Slot.{slot_given}

-- what is put at one place of a list is there
get-set : (items : List ci.Item) (slot : ℕ) (item : ci.Item) → slot < length items
    → slice_get (slice_set items slot item) slot ≡ Some item
get-set items slot item within =
    slice_get-get_or (slice_set items slot item) slot item
    (omega (arith, within, length-set items slot item))
    ∙ ap (λ (x : ci.Item). Some x) (get_or-set_same items slot item item within)

-- and each other has what it had
get-other : (items : List ci.Item) (slot other : ℕ) (item : ci.Item) → other ≢ slot
    → slice_get (slice_set items slot item) other ≡ slice_get items other
get-other items slot other item apart =
    ⊎_elim
    (λ within.
    slice_get-get_or (slice_set items slot item) other item
    (omega (arith, within, length-set items slot item))
    ∙ ap (λ (x : ci.Item). Some x) (get_or-set_other items slot other item item apart)
    ∙ sym (slice_get-get_or items other item within))
    (λ past.
    slice_get_past (slice_set items slot item) other
    (omega (arith, past, length-set items slot item))
    ∙ sym (slice_get_past items other past))
    (cases_lt other (length items))

-- what a slot is made
given-is : (part : Numbered) (bytes : Option (List ℕ))
    → standing_in (slot_given part bytes) ≡ option_map Standing bytes
given-is part None = refl
given-is part (Some bytes) = refl

module _ (part : Numbered) (slot : ℕ) (bytes : Option (List ℕ)) (old new : List ci.Item)
    (set : new ≡ slice_set old slot (slot_given part bytes)) where
  -- the slot has what is given,
  pub slot-here : slot < length old → slot_item slot new ≡ option_map Standing bytes
  slot-here within =
      ap (option_and_then standing_in)
      (ap (λ (items : List ci.Item). slice_get items slot) set
      ∙ get-set old slot (slot_given part bytes) within)
      ∙ given-is part bytes

  -- and each other what it had
  pub slot-other : (other : ℕ) → other ≢ slot → slot_item other new ≡ slot_item other old
  slot-other other apart =
      ap (option_and_then standing_in)
      (ap (λ (items : List ci.Item). slice_get items other) set
      ∙ get-other old slot other (slot_given part bytes) apart)
