-- What a crash may leave of a device, as this project models one: each block whole, and each for
-- itself.
use Rattle.std.specs.Prelude.{◌≡◌, ◌⊎◌, ◌<◌, ℕ, List, [], length, slice_index_or}

-- the bytes of one block
abbrev pub Block : Type 0
Block = List ℕ

-- the contents of all blocks, from block 0 on
abbrev pub Image : Type 0
Image = List Block

-- the content of block n
abbrev pub block_at : Image → ℕ → Block
block_at image n = slice_index_or image n []

-- Each block, independently of the others, holds one of the contents that may be there.
pub record IsImage (count : ℕ) (may : ℕ → Block → Type 0) (image : Image) : Type 0 where
  pub length_is : length image ≡ count
  pub each : (n : ℕ) → n < count → may n (block_at image n)

-- what may be there, and also these bytes in block n
abbrev pub MayAlso : (ℕ → Block → Type 0) → ℕ → Block → ℕ → Block → Type 0
MayAlso may n bytes m block = may m block ⊎ ((m ≡ n) × (block ≡ bytes))
