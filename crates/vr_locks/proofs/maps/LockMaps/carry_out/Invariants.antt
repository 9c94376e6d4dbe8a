use Rattle.std.proofs.Common.{◌≡◌, ◌<◌, ◌≤◌, ◌+◌, ℕ, length, get_or, drop, take}
use Rattle.std.specs.HashMap.{spare}
use Rattle.std.specs.Vec.Iter.{into_iter_items}
use Rattle.vr_types.specs.declared.lock_name.LockName.{LockName}
use Rattle.vr_locks.specs.Maps.{IsConsistent, lock_at, locks_in}
use Rattle.vr_locks.specs.Listed.{AreBelow}
use Rattle.vr_locks.specs.Locked.{with_locks}
use Rattle.vr_locks.specs.Plan.{AreStepsFor, NoneAgainst}
use Rattle.vr_locks.proofs.maps.LockMaps.carry_out.Given as goal

abbrev pub invariant-loop-step : goal.invariant-loop-step
invariant-loop-step l = record {
  next : l.self.next ≡ l.fn.self.next;
  kept : IsConsistent l.self l.self.next;
  last : AreBelow (lock_at l.self) (l.first + l.place);
  steps : AreStepsFor l.self l.unit (drop l.place l.names) (l.first + l.place)
      (into_iter_items l.step-iterator);
  free : (m : ℕ) (name : LockName) → m < length l.names
      → NoneAgainst l.self l.unit l.mode (get_or l.names m name);
  room : length l.names ≤ spare l.self.locks + l.place;
  locks : locks_in l.self ≡ with_locks l.unit l.mode (locks_in l.fn.self) (take l.place l.names);
}
