-- Where a control interval is cut in two: after the least first places that have half of the
-- weight. That an interval is split at its middle is DFSMS Using Data Sets; the weights, and the
-- cut at the end of a data set that grows at its end, are this project's own.
use Rattle.std.specs.Prelude.{ℕ, ◌+◌, ◌*◌, ◌<◌, ◌≤◌, length, take}
use Rattle.vr_space.specs.Room.{Lengths, weight}

-- the first places, this many, have half of the weight at least
abbrev pub HaveHalf : Lengths → ℕ → Type 0
HaveHalf lengths n = weight lengths ≤ 2 * weight (take n lengths)

-- the least such number, and never all
pub record IsMiddle (lengths : Lengths) (cut : ℕ) : Type 0 where
  pub some : 0 < cut
  pub before_last : cut < length lengths
  pub least : (n : ℕ) → 0 < n → n < cut → HaveHalf lengths n → ⊥
  pub half : cut + 1 < length lengths → HaveHalf lengths cut
