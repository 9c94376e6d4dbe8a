-- What is seen of blocks at one time: what they hold, and what a crash may leave of them. The rules
-- are this project's own.
use Rattle.std.specs.Prelude.{ℕ}
use Rattle.vr_types.specs.Image.{Block, Image, IsImage}

pub record Seen : Type 1 where
  -- the number of blocks, and the bytes of each
  pub count : ℕ
  pub size : ℕ
  -- the contents that a read gives
  pub cur : Image
  -- the contents that a crash may leave of each block, now and later while nothing is put
  pub may : ℕ → Block → Type 0
  -- the present moment of the clock, and what a crash at each moment so far may leave
  pub moment : ℕ
  pub images : ℕ → Image → Type 0

-- the images that a crash may leave now, and later while nothing is put
abbrev pub Left : Seen → Image → Type 0
Left seen image = IsImage seen.count seen.may image

-- each content that a crash may leave of block n has Q
abbrev pub Only : Seen → ℕ → (Block → Type 0) → Type 0
Only seen n Q = (block : Block) → seen.may n block → Q block
