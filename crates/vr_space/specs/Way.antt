-- How a reader gets to the item at a place: block by block, each chosen by what the ones before it
-- have. Where a crash may leave several contents of a block, the ways through them are what a
-- place may hold. The rules are this project's own.
use Rattle.std.specs.Prelude.{◌≡◌, ℕ, List, Option, Contains}
use Rattle.vr_types.specs.Content.{Item}
use Rattle.vr_types.specs.Image.{Block, Image, block_at}
use Rattle.vr_types.specs.Seen.{Seen}

-- The reader has come to the item at a place, or to none, or reads a block and goes on by what it
-- has.
pub data Way : Type 0 where
  Found : Option Item → Way
  Reads : ℕ → (Block → Way) → Way

-- the item that the way leads to in these blocks
abbrev pub found_on : Image → Way → Option Item
found_on image (Found item) = item
found_on image (Reads n next) = found_on image (next (block_at image n))

-- some contents that are allowed lead to this item, or to none
abbrev pub MayFind : (ℕ → Block → Type 0) → Option Item → Way → Type 0
MayFind may item (Found found) = item ≡ found
MayFind may item (Reads n next) = (block : Block) × may n block × MayFind may item (next block)

-- each block that the way may read, whatever is allowed of those before it, is one of these
abbrev pub IsWithin : (ℕ → Type 0) → (ℕ → Block → Type 0) → Way → Type 0
IsWithin region may (Found found) = Unit {0}
IsWithin region may (Reads n next) = region n
    × ((block : Block) → may n block → IsWithin region may (next block))

-- what a crash may leave once the listed blocks are forced
abbrev pub MayOnceForced : List ℕ → Seen → ℕ → Block → Type 0
MayOnceForced listed now n block = now.may n block
    × (Contains listed n → block ≡ block_at now.cur n)
