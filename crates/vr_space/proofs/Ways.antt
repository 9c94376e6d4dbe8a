-- What may be found on a way, as what is allowed of blocks grows or shrinks.
use Rattle.std.proofs.Common.{◌≡◌, ℕ, Option, refl}
use Rattle.vr_types.specs.Content.{Item}
use Rattle.vr_types.specs.Image.{Block, Image, block_at}
use Rattle.vr_space.specs.Way.{Way, Found, Reads, found_on, MayFind, IsWithin}

-- what an image has, where each of its blocks is allowed, may be found
pub found-may : (region : ℕ → Type 0) (may : ℕ → Block → Type 0) (image : Image)
    → ((n : ℕ) → region n → may n (block_at image n))
    → (way : Way) → IsWithin region may way → MayFind may (found_on image way) way
found-may region may image each (Found item) within = refl
found-may region may image each (Reads n next) within = (
  block_at image n,
  each n within.0,
  found-may region may image each (next (block_at image n))
      (within.1 (block_at image n) (each n within.0)),
)

-- more may be found where more is allowed
pub find-more : (region : ℕ → Type 0) (less more : ℕ → Block → Type 0) (item : Option Item)
    → ((n : ℕ) (block : Block) → region n → less n block → more n block)
    → (way : Way) → IsWithin region less way → MayFind less item way → MayFind more item way
find-more region less more item each (Found found) within is = is
find-more region less more item each (Reads n next) within is = (
  is.0,
  each n is.0 within.0 is.1,
  find-more region less more item each (next is.0)
      (within.1 is.0 is.1) is.2,
)

-- the way stays within where less is allowed
pub within-less : (region : ℕ → Type 0) (less more : ℕ → Block → Type 0)
    → ((n : ℕ) (block : Block) → region n → less n block → more n block)
    → (way : Way) → IsWithin region more way → IsWithin region less way
within-less region less more each (Found found) within = tt
within-less region less more each (Reads n next) within = (
  within.0,
  λ block may. within-less region less more each (next block)
      (within.1 block (each n block within.0 may)),
)

-- blocks that are alike in the region lead to one item
pub found-same : (region : ℕ → Type 0) (may : ℕ → Block → Type 0) (one other : Image)
    → ((n : ℕ) → region n → block_at other n ≡ block_at one n)
    → ((n : ℕ) → region n → may n (block_at one n))
    → (way : Way) → IsWithin region may way → found_on other way ≡ found_on one way
found-same region may one other same each (Found item) within = refl
found-same region may one other same each (Reads n next) within =
    Rattle.std.proofs.Common.◌∙◌
    (Rattle.std.proofs.Common.ap (λ (b : Block). found_on other (next b)) (same n within.0))
    (found-same region may one other same each (next (block_at one n))
    (within.1 (block_at one n) (each n within.0)))

-- and within more blocks
pub within-more : (region wider : ℕ → Type 0) (may : ℕ → Block → Type 0)
    → ((n : ℕ) → region n → wider n) → (way : Way) → IsWithin region may way
    → IsWithin wider may way
within-more region wider may more (Found found) within = tt
within-more region wider may more (Reads n next) within = (
  more n within.0,
  λ block is. within-more region wider may more (next block) (within.1 block is),
)

-- what may be found where less is allowed than on a way within the region, may be found there
pub find-less : (region : ℕ → Type 0) (less more : ℕ → Block → Type 0) (item : Option Item)
    → ((n : ℕ) (block : Block) → region n → less n block → more n block)
    → (way : Way) → IsWithin region more way → MayFind less item way → MayFind more item way
find-less region less more item each way within = find-more region less more item each way
    (within-less region less more each way within)
