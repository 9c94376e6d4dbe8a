-- One item of a content put in place, or taken out, and the record that it is.
use Rattle.std.specs.Prelude.{ℕ, List, Option, Some, None, option_and_then}
use Rattle.vr_types.specs.Content.{Content, Item, record_of, with_item, without_item}

-- a place of a content has an item from now on, or none
abbrev pub placed_in : List ℕ → Option Item → Content → Content
placed_in place None content = without_item content place
placed_in place (Some item) content = with_item content place item

-- the record that an item is, if there is one
abbrev pub record_in : Option Item → Option (List ℕ)
record_in item = option_and_then record_of item
