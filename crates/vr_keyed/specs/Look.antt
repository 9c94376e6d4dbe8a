-- Where the head of an area of a keyed part leads, and what its blocks stand for. The rules are
-- this project's own.
use Rattle.std.specs.Prelude.{◌≡◌, ◌<◌, ℕ, List, Some, get_or}
use Rattle.vr_types.specs.Content.{Content}
use Rattle.vr_types.specs.Image.{Block, Image, block_at}
use Rattle.vr_seqset.specs.Entry.{Entry}
use Rattle.vr_space.specs.Room.{Range}
use Rattle.vr_space.specs.Keyed.{Keyed, KeyedStandsFor, entry_block, entry_in}

-- The blocks of the area stand for some content, whichever of its chain it is.
abbrev pub AreaStands : Keyed → Image → Type 0
AreaStands part image = (content : Content) × KeyedStandsFor part image content

-- The place, as it is made of bytes, is one of the area: the head has an entry whose range holds it.
abbrev pub HasEntry : Keyed → Image → List ℕ → Type 0
HasEntry part image place = ((i : ℕ) → get_or place i 0 < 256)
    → (at : Range × Entry) × (entry_in (block_at image part.head) place ≡ Some at)

-- The head leads from the place to the block.
pub record LeadsTo (part : Keyed) (top : Block) (place : List ℕ) (n : ℕ) : Type 0 where
  pub at : Range × Entry
  pub found : entry_in top place ≡ Some at
  pub block : entry_block part at.1 ≡ n
