use Rattle.std.proofs.Common.{All}
use Rattle.vr_space.specs.Keyed.{IsKept}
use Rattle.vr_space.proofs.Searching.{IsCounting}
use Rattle.vr_space.proofs.search.count_among.Given as goal

abbrev pub invariant-loop-i : goal.invariant-loop-i
invariant-loop-i l = All (IsKept l.layout) l.view.items
    → IsCounting l.layout l.place l.view.items l.records l.i
