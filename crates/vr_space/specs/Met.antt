-- What a part keeps of the blocks that its last calls of `room` met, so that `set` at one of their
-- places reads nothing. The rules are this project's own.
use Rattle.std.specs.Prelude.{◌≡◌, ℕ, List, Some}
use Rattle.vr_types.specs.Image.{Block, Image, block_at}
use Rattle.vr_seqset.specs.Entry.{Entry}
use Rattle.vr_space.specs.Room.{Range}
use Rattle.vr_space.specs.Keyed.{Keyed, entry_block, entry_in}
use Rattle.vr_space.specs.Areas.{KeyedChain, area_for, area_of}

-- The interval of a place: the range of its entry, its block, and what the block has.
pub record Met : Type 0 where
  pub place : List ℕ
  pub range : Range
  pub number : ℕ
  pub block : Block

-- the head leads to it, and the block still has that
pub record IsMet (part : Keyed) (image : Image) (met : Met) : Type 0 where
  pub entry : Entry
  pub leads : entry_in (block_at image part.head) met.place ≡ Some (met.range, entry)
  pub number : entry_block part entry ≡ met.number
  pub still : block_at image met.number ≡ met.block

-- the same of a part, in the area that reaches the place
pub record IsChainMet (part : KeyedChain) (image : Image) (met : Met) : Type 0 where
  pub area : ℕ
  pub there : area_for part image met.place ≡ Some area
  pub is_met : IsMet (area_of part area) image met
