-- The sizes that a block may have, in bytes (DFSMS Using Data Sets, control interval size).
use Rattle.std.specs.Prelude.{◌≡◌, ℕ, ◌%◌, ◌<◌, ◌≤◌}

-- a multiple of 512 up to 8,192, or of 2,048 up to 32,768
pub record IsBlockSize (size : ℕ) : Type 0 where
  pub some : 0 < size
  pub most : size ≤ 32768
  pub small : size % 512 ≡ 0
  pub large : 8192 < size → size % 2048 ≡ 0
