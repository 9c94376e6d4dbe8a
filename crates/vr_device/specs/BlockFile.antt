-- Blocks in a file, and a device over it. The rules are this project's own.
use Rattle.std.specs.Prelude.{◌≡◌, ◌<◌, ◌*◌, ℕ, Bool}
use Rattle.vr_types.specs.Seen.{Seen}
use Rattle.vr_types.specs.Faults.{Faults}

-- Block n of a file begins at this byte.
pub record BeginsAt (seen : Seen) (n start : ℕ) : Type 0 where
  pub within : n < seen.count
  pub at : start ≡ n * seen.size

-- a device over a file: the file, whether a write or a sync has failed, and the counts of faults
pub record FileState (F : Type 0) : Type 0 where
  pub file : F
  pub shut : Bool
  pub faults : Faults
