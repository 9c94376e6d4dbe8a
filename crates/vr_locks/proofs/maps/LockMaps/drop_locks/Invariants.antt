use Rattle.std.proofs.Common.{◌≡◌, ℕ, None, cond, nat_eq, take}
use Rattle.std.specs.HashMap.{get}
use Rattle.std.specs.List.{list_any}
use Rattle.vr_types.specs.LockName.{lock_name_eq}
use Rattle.vr_types.specs.Locks.{Lock}
use Rattle.vr_locks.specs.Maps.{lock_at, of_name}
use Rattle.vr_locks.specs.Filed.{AreUsed}
use Rattle.vr_locks.specs.Listed.{IsFiled}
use Rattle.vr_locks.proofs.maps.LockMaps.drop_locks.Given as goal

abbrev pub invariant-loop-number : goal.invariant-loop-number
invariant-loop-number l = record {
  next : l.self.next ≡ l.fn.self.next;
  locks : (n : ℕ)
      → lock_at l.self n ≡ cond (list_any (nat_eq n) (take l.number-index l.numbers)) None
      (lock_at l.fn.self n);
  names : IsFiled lock_name_eq (λ (lock : Lock). lock.name) (lock_at l.self) l.self.next
      (of_name l.self);
  used : AreUsed (get lock_name_eq l.self.names);
  units : l.self.units ≡ l.fn.self.units;
}
