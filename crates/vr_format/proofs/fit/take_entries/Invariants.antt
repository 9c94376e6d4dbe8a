use Rattle.std.proofs.Common.{◌≡◌, ◌*◌, ◌≤◌, take}
use Rattle.vr_format.specs.Fit.{AreTaken}
use Rattle.vr_format.proofs.fit.take_entries.Given as goal

abbrev pub invariant-loop-entry : goal.invariant-loop-entry
invariant-loop-entry l = record {
  number : l.number ≡ l.entry-index;
  room : 207 * l.number ≤ l.geometry.size;
  taken : AreTaken l.geometry (take l.entry-index l.entries) l.clusters;
}
