use Rattle.std.proofs.Common.{◌≡◌, ◌≤◌, ◌*◌, take}
use Rattle.vr_space.specs.Room.{weight}
use Rattle.vr_split.specs.Entries.{lengths_seen}
use Rattle.vr_split.proofs.weights.weight_of.Given as goal

abbrev pub invariant-loop-i : goal.invariant-loop-i
invariant-loop-i l = record {
  sum : l.sum ≡ weight (take l.i (lengths_seen l.entries));
  few : l.sum ≤ l.i * 4294967298;
}
