use Rattle.std.proofs.Common.{All}
use Rattle.vr_space.specs.Keyed.{IsKept}
use Rattle.vr_keyed.specs.Slots.{met_in}
use Rattle.vr_keyed.proofs.Nexting.{IsLooking}
use Rattle.vr_keyed.proofs.next.first_key.Given as goal

abbrev pub invariant-loop-i : goal.invariant-loop-i
invariant-loop-i l = All (IsKept l.layout) l.view.items
    → IsLooking l.layout (met_in l.slot).range l.from l.view.items l.records l.i
