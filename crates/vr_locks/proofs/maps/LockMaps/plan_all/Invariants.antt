use Rattle.std.proofs.Common.{◌≡◌, ◌+◌}
use Rattle.std.proofs.Common.{take}
use Rattle.vr_locks.specs.Maps.{IsConsistent}
use Rattle.vr_locks.specs.Plan.{AreStepsFor}
use Rattle.vr_locks.proofs.maps.LockMaps.plan_all.Given as goal

abbrev pub invariant-loop-i : goal.invariant-loop-i
invariant-loop-i l = record {
  locks : l.self.locks ≡ l.fn.self.locks;
  next : l.self.next ≡ l.fn.self.next;
  kept : IsConsistent l.self (l.first + l.i);
  steps : AreStepsFor l.self l.unit (take l.i l.names) l.first l.steps.items;
}
