use Rattle.std.proofs.Common.{◌≡◌, length}
use Rattle.vr_keyed.specs.Slots.{AreSlotsOf}
use Rattle.vr_keyed.proofs.slots.Slots.make_room.Given as goal

abbrev pub invariant-loop : goal.invariant-loop
invariant-loop l = record {
  none : l.self.filled ≡ 0;
  count : length l.self.more.items ≡ l.counter;
  room : AreSlotsOf l.layout l.self;
}
