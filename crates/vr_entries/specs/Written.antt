-- An interval of records that is written item by item: what may be given at a displacement, and what
-- its items are then. The rules are this project's own.
use Rattle.std.specs.Prelude.{◌≡◌, ◌≢◌, ◌≤◌, ◌<◌, ◌+◌, ◌-◌, ℕ, Bool, true, false, List, [], ◌∷◌}
use Rattle.std.specs.Prelude.{length, Option, Some, None}
use Rattle.std.specs.List.{AllByRecursion}
use Rattle.vr_ci.specs.Interval as ci
use Rattle.vr_ci.specs.Writer.{Holds, size_of, written}
use Rattle.vr_ci.specs.declared.writer.CiWriter.{CiWriter}
use Rattle.vr_space.specs.Entries.{IsEntry, entry_item}
use Rattle.vr_space.specs.Numbered.{left_in}
use Rattle.vr_space.specs.Rosters.{Numbered}
use Rattle.vr_entries.specs.Entry.{LengthsAfter, MayTake}

-- the items of an interval of the part
pub record AreEntryItems (part : Numbered) (items : List ci.Item) : Type 0 where
  pub each : AllByRecursion ci.IsItem items
  pub most : AllByRecursion (IsEntry part) items
  pub room : ci.room items ≤ part.geometry.size - 4

-- A record may be given at a displacement, or there is an item to withdraw.
abbrev pub MayStand : Numbered → ℕ → Option (List ℕ) → List ci.Item → Type 0
MayStand part at None items = entry_item at items ≢ None
MayStand part at (Some bytes) items = (0 < length bytes) × (length bytes ≤ part.most)
    × MayTake part items at (length bytes) (entry_item at items)

-- One more item of so many bytes has room in what is written.
pub record HasRoom (n : ℕ) (w : CiWriter) : Type 0 where
  pub some : 0 < n
  pub items : List ci.Item
  pub holds : Holds w items
  pub room : ci.room items + (n + 3) ≤ size_of w - 4

-- an item is replaced by what is given, or withdrawn
abbrev pub item_made : Option (List ℕ) → ci.Item → ci.Item
item_made None item = written item.bytes false
item_made (Some bytes) item = written bytes true

-- the item itself, or what is made of it
abbrev pub item_left : Bool → Option (List ℕ) → ci.Item → ci.Item
item_left false bytes item = item
item_left true bytes item = item_made bytes item

-- what is added after the items, where it is given there
abbrev pub items_added : Bool → Option (List ℕ) → List ci.Item
items_added false bytes = []
items_added true None = []
items_added true (Some bytes) = written bytes true ∷ []

-- The items are others with one of them set, withdrawn or added.
pub record AreEntriesSet (at : ℕ) (bytes : Option (List ℕ)) (old new : List ci.Item) : Type 0
  where
    pub here : entry_item at new ≡ left_in false (entry_item at old) bytes
    pub others : (other : ℕ) → other ≢ at → entry_item other new ≡ entry_item other old
    pub lengths : LengthsAfter (entry_item at old) at bytes old new
