use Rattle.std.proofs.Common.{map}
use Rattle.std.specs.Map.Iter.{deref_pair}
use Rattle.vr_resident.specs.Table.{IsLastOf}
use Rattle.vr_resident.specs.declared.place.Sought.TheVariants as sought
use Rattle.vr_resident.proofs.table.find_lasts.Given as goal

abbrev pub invariant-loop-number : goal.invariant-loop-number
invariant-loop-number l = record {
  found : IsLastOf (sought.Block l.n) (map deref_pair l.yielded) l.found;
  empty : IsLastOf sought.Empty (map deref_pair l.yielded) l.empty;
  bare : IsLastOf sought.Bare (map deref_pair l.yielded) l.bare;
  held : IsLastOf sought.Held (map deref_pair l.yielded) l.held;
}
