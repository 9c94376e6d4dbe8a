use Rattle.vr_keyed.proofs.Freeing.{IsLooking, AreSingle}
use Rattle.vr_keyed.proofs.room.is_used.Given as goal

abbrev pub invariant-loop : goal.invariant-loop
invariant-loop l = AreSingle l.view.entries → IsLooking l.n l.view.entries l.entries l.counter
