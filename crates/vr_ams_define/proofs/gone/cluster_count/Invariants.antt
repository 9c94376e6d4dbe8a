use Rattle.std.proofs.Common.{◌≡◌, ◌≤◌, take}
use Rattle.std.specs.List.{count_by}
use Rattle.vr_edits.specs.Edits.{is_cluster_entry}
use Rattle.vr_ams_define.proofs.gone.cluster_count.Given as goal

-- those so far
abbrev pub invariant-loop-entry : goal.invariant-loop-entry
invariant-loop-entry l = record {
  counted : l.count ≡ count_by is_cluster_entry (take l.entry-index l.gone);
  few : l.count ≤ l.entry-index;
}
