use Rattle.std.proofs.Common.{◌≡◌, ◌≤◌, drop}
use Rattle.vr_event.specs.Counts.{no_splits, splits_by}
use Rattle.vr_event.proofs.splits.splits_of.Given as goal

-- the splits so far, with those of the entries left, are those of all; and there are no more than
-- entries so far
abbrev pub invariant-loop-entry : goal.invariant-loop-entry
invariant-loop-entry l = record {
  left : splits_by l.part.0 l.splits (drop l.entry-index l.entries)
      ≡ splits_by l.part.0 no_splits l.entries;
  intervals : l.splits.intervals ≤ l.entry-index;
  areas : l.splits.areas ≤ l.entry-index;
}
