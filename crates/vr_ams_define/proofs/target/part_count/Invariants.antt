use Rattle.std.proofs.Common.{◌≡◌, ◌≤◌, take}
use Rattle.std.specs.List.{count_by}
use Rattle.vr_edits.specs.Edits.{is_of_part}
use Rattle.vr_ams_define.proofs.target.part_count.Given as goal

-- those so far
abbrev pub invariant-loop-other : goal.invariant-loop-other
invariant-loop-other l = record {
  counted : l.count ≡ count_by (is_of_part l.entry) (take l.other-index l.entries);
  few : l.count ≤ l.other-index;
}
