use Rattle.std.proofs.Common.{◌≤◌, ℕ, List, drop, length}
use Rattle.std.specs.Prelude.{IsTrue}
use Rattle.std.specs.List.{All}
use Rattle.std.specs.Ordering.{is_le}
use Rattle.vr_types.specs.Content.{place_cmp}
use Rattle.vr_split.specs.Entries.{lengths_seen}
use Rattle.vr_split.proofs.weights.position_in.Given as goal

abbrev pub invariant-loop-i : goal.invariant-loop-i
invariant-loop-i l = record {
  within : l.i ≤ length l.entries;
  past : All (λ (entry : List ℕ × ℕ). IsTrue (is_le (place_cmp l.place entry.0)))
      (drop l.i (lengths_seen l.entries));
}
