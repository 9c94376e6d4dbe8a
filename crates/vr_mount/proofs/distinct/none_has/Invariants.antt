use Rattle.std.proofs.Common.{drop}
use Rattle.vr_mount.specs.Numbers.{IsNew, numbers_by}
use Rattle.vr_mount.proofs.distinct.none_has.Given as goal

-- the number is new to all entries exactly where it is to those that are left
abbrev pub invariant-loop-entry : goal.invariant-loop-entry
invariant-loop-entry l = record {
  back : IsNew l.number (numbers_by l.which (drop l.entry-index l.entries))
      → IsNew l.number (numbers_by l.which l.entries);
  on : IsNew l.number (numbers_by l.which l.entries)
      → IsNew l.number (numbers_by l.which (drop l.entry-index l.entries));
}
