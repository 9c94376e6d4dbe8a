-- Where two lists of bytes differ first.
use Rattle.std.specs.Prelude.{◌≡◌, ◌≢◌, ℕ, ◌-◌, ◌<◌, ◌≤◌, List, length, take, slice_index, Option}
use Rattle.std.specs.Prelude.{Some, None}

-- the first place where the two differ
pub record DifferFirst (xs ys : List ℕ) (at : ℕ) : Type 0 where
  pub before : take at xs ≡ take at ys
  pub within : at < length xs
  pub here : slice_index xs at ≢ slice_index ys at

-- A part of a block that begins at this place, and what it should be: nothing where they are equal,
-- else the place in the block of the first byte that differs.
abbrev pub Compares : ℕ → List ℕ → List ℕ → Option ℕ → Type 0
Compares start xs ys None = xs ≡ ys
Compares start xs ys (Some at) = (start ≤ at) × DifferFirst xs ys (at - start)
