-- The intervals of a relative part: slots of one length, and the number of a slot, counted from 1
-- over all of them, is its relative record number (DFSMS Using Data Sets, relative record data
-- sets).
use Rattle.std.specs.Prelude.{◌≡◌, ℕ, suc, false, List, [], ◌∷◌, length, Option, Some, None}
use Rattle.std.specs.Prelude.{option_and_then, slice_get, if◌then◌else◌}
use Rattle.vr_types.specs.Content.{Content, Item}
use Rattle.vr_types.specs.Content.Item.{Standing}
use Rattle.vr_types.specs.Fields.{four}
use Rattle.vr_types.specs.Image.{Block}
use Rattle.vr_ci_match.specs.Laid.{slots_in}
use Rattle.vr_ci_match.specs.declared.form.Form.TheVariants as forms
use Rattle.vr_ci_match.specs.declared.form.Shape.TheVariants as shapes
use Rattle.vr_ci.specs.Interval as ci
use Rattle.vr_space.specs.Keyed.{items_of}
use Rattle.vr_space.specs.Rosters.{Numbered}

-- how many slots an interval has
abbrev pub slots_of : Numbered → ℕ
slots_of part = slots_in part.geometry.size part.most

-- the block is an interval of slots of the part's length
pub record IsSlots (part : Numbered) (block : Block) : Type 0 where
  pub spelled : ci.IsInterval (forms.Slots part.most) block (record {
    shape = shapes.Records;
    items =
        items_of block;
    busy = false;
  })
  pub size : length block ≡ part.geometry.size

-- what a slot has: a record where it is live
abbrev pub standing_in : ci.Item → Option Item
standing_in item = if item.live then Some (Standing item.bytes) else None

-- the records of slots that are numbered from this one on
abbrev pub records_from : ℕ → List ci.Item → Content
records_from number [] = []
records_from number (item ∷ items) =
    if item.live then (four number, Standing item.bytes) ∷ records_from (suc number) items
    else records_from (suc number) items

-- what the slot of that number has
abbrev pub slot_item : ℕ → List ci.Item → Option Item
slot_item slot items = option_and_then standing_in (slice_get items slot)
