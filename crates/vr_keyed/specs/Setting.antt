-- The records of an interval, with one at a place set or taken away. The rules are this project's
-- own.
use Rattle.std.specs.Prelude.{◌≡◌, ℕ, Bool, true, false, List, [], ◌∷◌, ◌++◌, Option}
use Rattle.std.specs.Prelude.{Some, None, ◌&&◌, filter}
use Rattle.std.specs.Borrow.{Bor}
use Rattle.std.specs.Option.{option_map}
use Rattle.std.specs.Ordering.{is_le, is_lt}
use Rattle.std.specs.declared.cmp.Ordering.{Ordering}
use Rattle.vr_types.specs.Content.{place_cmp}
use Rattle.vr_ci.specs.Interval as ci
use Rattle.vr_space.specs.Room.{Range, is_above}
use Rattle.vr_space.specs.Keyed.{IsValid, Keyed, key_of}
use Rattle.vr_keyed.specs.declared.stretch.Stretch.{Stretch}

-- a record that may stand at the place
abbrev pub IsRecordHere : Keyed → List ℕ → List ℕ → Type 0
IsRecordHere part place bytes = IsValid part bytes × (key_of part bytes ≡ place)

-- at most, or below
abbrev pub is_up_to : Bool → Ordering → Bool
is_up_to true order = is_le order
is_up_to false order = is_lt order

-- Places above the low one, where there is one, and up to the high one, itself or not.
abbrev pub is_between : Option (List ℕ) → List ℕ → Bool → List ℕ → Bool
is_between low high most place = is_above low place && is_up_to most (place_cmp place high)

-- the records of those places
abbrev pub items_between : Keyed → Option (List ℕ) → List ℕ → Bool → List ci.Item
    → List ci.Item
items_between part low high most items =
    filter (λ (item : ci.Item). is_between low high most (key_of part item.bytes)) items

-- those of a stretch
abbrev pub items_in : Keyed → Stretch → List ci.Item → List ci.Item
items_in part stretch items =
    items_between part (option_map (λ (low : Bor (List ℕ)). low.now) stretch.low)
    stretch.high.now stretch.most items

-- a record that is given
abbrev pub items_given : Option (List ℕ) → List ci.Item
items_given None = []
items_given (Some bytes) = record { bytes = bytes; live = true } ∷ []

-- The records of a range, with the one at this place replaced by what is given.
abbrev pub items_set : Keyed → Range → List ℕ → Option (List ℕ) → List ci.Item → List ci.Item
items_set part range place new items =
    items_between part range.low place false items
    ++ (items_given new ++ items_between part (Some place) range.high true items)
