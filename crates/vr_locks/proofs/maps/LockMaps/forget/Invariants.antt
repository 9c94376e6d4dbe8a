use Rattle.std.proofs.Common.{◌≡◌}
use Rattle.vr_locks.specs.Maps.{IsConsistent}
use Rattle.vr_locks.proofs.maps.LockMaps.forget.Given as goal

abbrev pub invariant-loop-i : goal.invariant-loop-i
invariant-loop-i l = record {
  kept : IsConsistent l.self l.self.next;
  locks : l.self.locks ≡ l.fn.self.locks;
  next : l.self.next ≡ l.fn.self.next;
}
