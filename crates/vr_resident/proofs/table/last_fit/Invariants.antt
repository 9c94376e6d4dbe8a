use Rattle.std.proofs.Common.{MatchOption, map}
use Rattle.std.specs.Map.Iter.{deref_pair}
use Rattle.vr_resident.specs.Places.{AreNone, IsLast}
use Rattle.vr_resident.proofs.table.last_fit.Given as goal

abbrev pub invariant-loop-number : goal.invariant-loop-number
invariant-loop-number l =
    MatchOption l.last (AreNone l.sought (map deref_pair l.yielded))
    (IsLast l.sought (map deref_pair l.yielded))
