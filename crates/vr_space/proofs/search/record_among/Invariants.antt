use Rattle.std.proofs.Common.{All}
use Rattle.vr_space.specs.Keyed.{IsKept}
use Rattle.vr_space.proofs.Searching.{IsSearching}
use Rattle.vr_space.proofs.search.record_among.Given as goal

abbrev pub invariant-loop-i : goal.invariant-loop-i
invariant-loop-i l = All (IsKept l.layout) l.view.items
    → IsSearching l.layout l.place l.view.items l.records l.i
