-- What is read of an interval of an entry-sequenced part, and what setting one of its records leaves
-- of it. The rules are this project's own.
use Rattle.std.specs.Prelude.{◌≡◌, ◌≢◌, ◌≤◌, ◌<◌, ◌+◌, ◌-◌, ℕ, false, List, [], ◌∷◌, ◌++◌, length, map}
use Rattle.std.specs.Prelude.{Option, Some, None, option_and_then}
use Rattle.vr_types.specs.Content.{Item, record_of}
use Rattle.vr_types.specs.Image.{Block}
use Rattle.vr_ci.specs.Interval as ci
use Rattle.vr_space.specs.Entries.{IsEntries, bytes_in, entry_item, item_length}
use Rattle.vr_space.specs.Keyed.{items_of}
use Rattle.vr_space.specs.Numbered.{left_in}
use Rattle.vr_space.specs.Rosters.{Numbered}

-- the record that begins at a displacement: what was withdrawn is none
abbrev pub record_from : ℕ → Block → Option (List ℕ)
record_from at block = option_and_then record_of (entry_item at (items_of block))

-- The record is the first one that begins at a displacement or past it.
pub record IsFirstRecord (part : Numbered) (block : Block) (from at : ℕ) : Type 0 where
  pub from_is : from ≤ at
  pub below_is : at < part.geometry.size
  pub some : record_from at block ≢ None
  pub none : (other : ℕ) → from ≤ other → other < at → record_from other block ≡ None

-- What may be given at a displacement: a record as long as the item there; or where none begins, one
-- after the last item, for which there is room; or none.
abbrev pub MayTake : Numbered → List ci.Item → ℕ → ℕ → Option Item → Type 0
MayTake part items at n None =
    (at ≡ bytes_in items) × (ci.room items + (n + 3) ≤ part.geometry.size - 4)
MayTake part items at n (Some item) = item_length item ≡ n

abbrev pub MayBeSet : Numbered → ℕ → Option (List ℕ) → Block → Type 0
MayBeSet part at None block = Unit {0}
MayBeSet part at (Some bytes) block = (0 < length bytes) × (length bytes ≤ part.most)
    × MayTake part (items_of block) at (length bytes) (entry_item at (items_of block))

-- the lengths of the items
abbrev pub lengths_in : List ci.Item → List ℕ
lengths_in items = map (λ (item : ci.Item). length item.bytes) items

-- an item stays as long as it was; a record that is added comes after the others
abbrev pub LengthsAfter : Option Item → ℕ → Option (List ℕ) → List ci.Item → List ci.Item → Type 0
LengthsAfter (Some item) at bytes old new = lengths_in new ≡ lengths_in old
LengthsAfter None at None old new = lengths_in new ≡ lengths_in old
LengthsAfter None at (Some bytes) old new =
    (at ≡ bytes_in old) × (lengths_in new ≡ lengths_in old ++ length bytes ∷ [])

-- The record at a displacement is set, or withdrawn.
pub record IsEntrySet (part : Numbered) (at : ℕ) (bytes : Option (List ℕ)) (old new : Block)
    : Type 0 where
  pub entries : IsEntries part new
  pub here : entry_item at (items_of new) ≡ left_in false (entry_item at (items_of old)) bytes
  pub others : (other : ℕ) → other ≢ at
      → entry_item other (items_of new) ≡ entry_item other (items_of old)
  pub lengths : LengthsAfter (entry_item at (items_of old)) at bytes (items_of old) (items_of new)

-- The block is an interval without an item.
pub record HasNoEntry (part : Numbered) (block : Block) : Type 0 where
  pub entries : IsEntries part block
  pub items : items_of block ≡ []
