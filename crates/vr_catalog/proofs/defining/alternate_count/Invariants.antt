use Rattle.std.proofs.Common.{◌≡◌, ◌≤◌, take}
use Rattle.vr_catalog.specs.Define.{alternate_count}
use Rattle.vr_catalog.proofs.defining.alternate_count.Given as goal

-- those so far
abbrev pub invariant-loop-entry : goal.invariant-loop-entry
invariant-loop-entry l = record {
  counted : l.count ≡ alternate_count (take l.entry-index l.entry-items) l.base.0;
  few : l.count ≤ l.entry-index;
}
