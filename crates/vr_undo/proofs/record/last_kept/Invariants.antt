use Rattle.std.proofs.Common.{◌≡◌, ◌≤◌, false, drop, length}
use Rattle.std.specs.List.{list_any}
use Rattle.vr_undo.specs.Records.{keeps_for}
use Rattle.vr_undo.specs.Searched.{record_at}
use Rattle.vr_undo.proofs.record.last_kept.Given as goal

abbrev pub invariant-loop-at : goal.invariant-loop-at
invariant-loop-at l = record {
  within : l.at ≤ length l.live;
  none_after :
      list_any (λ number. keeps_for l.unit (record_at l.records number)) (drop l.at l.live) ≡ false;
}

abbrev pub decreases-loop-at : goal.decreases-loop-at
decreases-loop-at l = l.at
