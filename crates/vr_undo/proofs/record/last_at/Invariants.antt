use Rattle.std.proofs.Common.{◌≡◌, ◌≤◌, false, drop, length}
use Rattle.std.specs.List.{list_any}
use Rattle.vr_undo.specs.Records.{is_record_at}
use Rattle.vr_undo.proofs.record.last_at.Given as goal

abbrev pub invariant-loop-at : goal.invariant-loop-at
invariant-loop-at l = record {
  within : l.at ≤ length l.records;
  none_after : list_any (is_record_at l.unit l.part.0 l.place) (drop l.at l.records) ≡ false;
}

abbrev pub decreases-loop-at : goal.decreases-loop-at
decreases-loop-at l = l.at
