use Rattle.std.proofs.Common.{drop}
use Rattle.std.specs.Prelude.{nat_eq}
use Rattle.std.specs.List.{IsDistinct}
use Rattle.vr_mount.specs.Numbers.{numbers_by}
use Rattle.vr_mount.proofs.distinct.no_two.Given as goal

-- the numbers of all entries are distinct exactly where those of the entries that are left are
abbrev pub invariant-loop-i : goal.invariant-loop-i
invariant-loop-i l = record {
  back : IsDistinct nat_eq (numbers_by l.which (drop l.i l.entries))
      → IsDistinct nat_eq (numbers_by l.which l.entries);
  on : IsDistinct nat_eq (numbers_by l.which l.entries)
      → IsDistinct nat_eq (numbers_by l.which (drop l.i l.entries));
}
