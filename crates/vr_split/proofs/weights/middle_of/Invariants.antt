use Rattle.std.proofs.Common.{◌≡◌, ◌≤◌, ◌<◌, ℕ, take}
use Rattle.vr_space.specs.Room.{weight}
use Rattle.vr_split.specs.Cut.{HaveHalf}
use Rattle.vr_split.specs.Entries.{lengths_seen}
use Rattle.vr_split.proofs.weights.middle_of.Given as goal

abbrev pub invariant-loop-i : goal.invariant-loop-i
invariant-loop-i l = record {
  sum : l.sum ≡ weight (take l.i (lengths_seen l.entries));
  none : (n : ℕ) → 0 < n → n ≤ l.i → HaveHalf (lengths_seen l.entries) n → ⊥;
}
