-- Bounds of the sizes that blocks may have.
use Rattle.std.proofs.Common.{ℕ, ◌≤◌}
use Rattle.vr_types.specs.BlockSize.{IsBlockSize}
use Rattle.vr_types.proofs.CallerLemmas.{block_size_least}

-- a block that is allowed has 512 to 32,768 bytes
pub size_bounds : (n : ℕ) → IsBlockSize n → (512 ≤ n) × (n ≤ 32768)
size_bounds n size = (block_size_least n size, size.most)
