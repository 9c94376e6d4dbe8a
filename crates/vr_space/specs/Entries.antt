-- The intervals of an entry-sequenced part: records of lengths of their own, one after another,
-- each at its relative byte address; one that was withdrawn keeps its bytes (DFSMS Using Data Sets,
-- entry-sequenced data sets). How much of an interval is used is this project's own rule of room.
use Rattle.std.specs.Prelude.{◌≡◌, ℕ, ◌+◌, ◌-◌, ◌*◌, ◌≤◌, false, List, [], ◌∷◌, length}
use Rattle.std.specs.Prelude.{Option, Some, None, nat_eq, nat_le, if◌then◌else◌}
use Rattle.std.specs.List.{AllByRecursion}
use Rattle.vr_types.specs.Content.{Content, Item}
use Rattle.vr_types.specs.Content.Item.{Standing, Withdrawn}
use Rattle.vr_types.specs.Fields.{four}
use Rattle.vr_types.specs.Image.{Block}
use Rattle.vr_ci_match.specs.declared.form.Form.TheVariants as forms
use Rattle.vr_ci_match.specs.declared.form.Shape.TheVariants as shapes
use Rattle.vr_ci.specs.Interval as ci
use Rattle.vr_space.specs.Keyed.{items_of}
use Rattle.vr_space.specs.Rosters.{Numbered}

-- it is no longer than the part's longest record
abbrev pub IsEntry : Numbered → ci.Item → Type 0
IsEntry part item = length item.bytes ≤ part.most

-- the block is an interval of such records
pub record IsEntries (part : Numbered) (block : Block) : Type 0 where
  pub spelled : ci.IsInterval forms.Plain block (record {
    shape = shapes.Records;
    items =
        items_of block;
    busy = false;
  })
  pub size : length block ≡ part.geometry.size
  pub each : AllByRecursion (IsEntry part) (items_of block)

-- the bytes that an item takes, withdrawn or not
abbrev pub item_length : Item → ℕ
item_length (Standing bytes) = length bytes
item_length (Withdrawn n) = n

-- what stands in an interval: a record, or one that was withdrawn
abbrev pub entry_of : ci.Item → Item
entry_of item = if item.live then Standing item.bytes else Withdrawn (length item.bytes)

-- the records that follow one another from this address on
abbrev pub entries_from : ℕ → List ci.Item → Content
entries_from address [] = []
entries_from address (item ∷ items) =
    (four address, entry_of item) ∷ entries_from (address + length item.bytes) items

-- what begins at this displacement
abbrev pub entry_item : ℕ → List ci.Item → Option Item
entry_item at [] = None
entry_item at (item ∷ items) =
    if nat_eq at 0 then Some (entry_of item)
    else if nat_le (length item.bytes) at then entry_item (at - length item.bytes) items
    else None

-- the bytes of all of them
abbrev pub bytes_in : List ci.Item → ℕ
bytes_in [] = 0
bytes_in (item ∷ items) = length item.bytes + bytes_in items

-- ---- where the next record goes

-- The last interval with an item, counted from 0 over all of the part; the bytes of its items, and
-- the room that they need.
pub record Tail : Type 0 where
  pub interval : ℕ
  pub bytes : ℕ
  pub room : ℕ

-- A record of this length goes after the last item where its interval has room for it, else to the
-- start of the next interval.
abbrev pub address_after : Numbered → Option Tail → ℕ → ℕ
address_after part None n = 0
address_after part (Some tail) n =
    if nat_le (tail.room + (n + 3)) (part.geometry.size - 4)
    then tail.interval * part.geometry.size + tail.bytes
    else (tail.interval + 1) * part.geometry.size
