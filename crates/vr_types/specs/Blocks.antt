-- What a call leaves of the blocks that the layers above a device read and write. What is said of
-- contents is said where they are reported. The rules are this project's own.
use Rattle.std.specs.Prelude.{◌≡◌, ◌⊎◌, ◌<◌, ℕ, Bool, IsTrue, List, slice_set, Contains}
use Rattle.vr_types.specs.Image.{Block, Image, IsImage, MayAlso, block_at}
use Rattle.vr_types.specs.Seen.{Seen, Left}
use Rattle.vr_types.specs.Moments.{During}

-- each content that may be left now might have been left before
abbrev pub AddsNone : ℕ → (ℕ → Block → Type 0) → (ℕ → Block → Type 0) → Type 0
AddsNone count before now = (n : ℕ) (block : Block) → n < count → now n block → before n block

-- a crash leaves the current content of each listed block, and no other
abbrev pub Forced : List ℕ → Image → (ℕ → Block → Type 0) → Type 0
Forced listed blocks may =
    (n : ℕ) (block : Block) → Contains listed n → may n block → block ≡ block_at blocks n

-- the same of every block
abbrev pub AllForced : ℕ → Image → (ℕ → Block → Type 0) → Type 0
AllForced count blocks may =
    (n : ℕ) (block : Block) → n < count → may n block → block ≡ block_at blocks n

-- A call that puts nothing made `new` of `old`, whether it failed or not. It may have written
-- blocks out.
pub record Keeps (tells : Bool) (old new : Seen) : Type 0 where
  pub count_same : new.count ≡ old.count
  pub size_same : new.size ≡ old.size
  pub content : IsTrue tells → new.cur ≡ old.cur
  pub adds_none : IsTrue tells → AddsNone old.count old.may new.may
  pub moments : IsTrue tells → During old new (Left old)

-- A call that puts these bytes into block n made `new` of `old`, whether it failed or not.
pub record Puts (tells : Bool) (n : ℕ) (bytes : Block) (old new : Seen) : Type 0 where
  pub count_same : new.count ≡ old.count
  pub size_same : new.size ≡ old.size
  pub content : IsTrue tells → (new.cur ≡ old.cur) ⊎ (new.cur ≡ slice_set old.cur n bytes)
  pub adds : IsTrue tells → AddsNone old.count (MayAlso old.may n bytes) new.may
  pub moments : IsTrue tells → During old new (IsImage old.count (MayAlso old.may n bytes))
