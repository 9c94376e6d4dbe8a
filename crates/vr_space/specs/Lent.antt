-- Ranges of places that are lent.
use Rattle.std.specs.Prelude.{ℕ, List}
use Rattle.std.specs.Borrow.{Bor}
use Rattle.std.specs.Option.{option_map}
use Rattle.vr_space.specs.Room.{Range}
use Rattle.vr_space.specs.declared.range.LentRange.{LentRange}

-- the range
abbrev pub range_lent : LentRange → Range
range_lent range = record {
  low = option_map (λ (low : Bor (List ℕ)). low.now) range.low;
  high = range.high.now;
}
