-- The blocks of one owner, and those of all others. The rules are this project's own.
use Rattle.std.specs.Prelude.{◌≡◌, ◌<◌, ℕ}
use Rattle.vr_types.specs.Image.{Block, Image, block_at}
use Rattle.vr_types.specs.Seen.{Seen}
use Rattle.vr_types.specs.Moments.{During}

-- Each block of a region, independently of the others, holds one of the contents that may be there.
pub record IsImageOn (region : ℕ → Type 0) (count : ℕ) (may : ℕ → Block
    → Type 0) (image : Image) : Type 0 where
  pub each : (n : ℕ) → n < count → region n → may n (block_at image n)

-- the blocks that aren't of the region
abbrev pub Outside : (ℕ → Type 0) → ℕ → Type 0
Outside region n = region n → ⊥

-- two regions without a common block
abbrev pub Apart : (ℕ → Type 0) → (ℕ → Type 0) → Type 0
Apart mine other = (n : ℕ) → mine n → other n → ⊥

-- Calls that put into a region alone made `new` of `old`, and each image of theirs has Q. This is
-- the word of one owner, and at once what all others are told.
pub record Touches (region : ℕ → Type 0) (Q : Image → Type 0) (old new : Seen) : Type 0 where
  pub count_same : new.count ≡ old.count
  pub size_same : new.size ≡ old.size
  pub content : (n : ℕ) → Outside region n → block_at new.cur n ≡ block_at old.cur n
  pub adds_none : (n : ℕ) (block : Block) → n < old.count → Outside region n → new.may n block
      → old.may n block
  pub moments : During old new (λ image. IsImageOn (Outside region) old.count old.may image
      × Q image)
  pub rest : (image : Image) → IsImageOn region new.count new.may image → Q image
