-- Whether the intervals of an area have room for what is kept, one by one. The rules are this
-- project's own.
use Rattle.std.specs.Prelude.{◌≡◌, ◌<◌, ℕ, length, Some}
use Rattle.std.specs.List.{slice_get}
use Rattle.vr_types.specs.Image.{Block, Image, block_at}
use Rattle.vr_seqset.specs.Entry.{Entry}
use Rattle.vr_space.specs.Keyed.{Keyed, entries_of, entry_block, lengths_of, low_of, range_of}
use Rattle.vr_space.specs.Room.{HaveRoom, Lengths, Range}
use Rattle.vr_space.specs.Search.{low_before}

-- what is kept for the range has room beside what the interval has
abbrev pub HasRoomIn : Keyed → Lengths → Range → Block → Type 0
HasRoomIn part kept range block = HaveRoom part.size (lengths_of part kept range block)

-- the same of the interval of the entry of this number
abbrev pub HasRoomNth : Keyed → Lengths → Block → Image → ℕ → Type 0
HasRoomNth part kept top image i = (entry : Entry) → slice_get (entries_of top) i ≡ Some entry
    → HasRoomIn part kept (range_of (low_before (low_of top) (entries_of top) i) entry)
    (block_at image (entry_block part entry))

-- and of each entry
abbrev pub HaveRoomsAll : Keyed → Lengths → Block → Image → Type 0
HaveRoomsAll part kept top image =
    (i : ℕ) → i < length (entries_of top) → HasRoomNth part kept top image i
