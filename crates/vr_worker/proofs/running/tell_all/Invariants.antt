use Rattle.std.proofs.Common.{◌≡◌}
use Rattle.std.specs.List.{AllWithin}
use Rattle.vr_worker.specs.Ready.{AreSameSeats, IsToldAt}
use Rattle.vr_worker.proofs.running.tell_all.Given as goal

abbrev pub invariant-loop-at : goal.invariant-loop-at
invariant-loop-at g l = record {
  told : AllWithin (IsToldAt l.place (g.V.Served.entries l.initial.latched.volume)) l.seats 0 l.at;
  seats : AreSameSeats l.initial.seats l.seats;
  volume : l.latched.volume ≡ l.initial.latched.volume;
}
