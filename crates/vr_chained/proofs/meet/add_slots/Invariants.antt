use Rattle.std.proofs.Common.{◌≡◌, ◌≤◌, All, vec_len}
use Rattle.std.specs.Prelude.{max}
use Rattle.vr_chained.specs.Met.{IsMetOf}
use Rattle.vr_chained.proofs.meet.add_slots.Given as goal

abbrev pub invariant-loop : goal.invariant-loop
invariant-loop l = record {
  room : All (IsMetOf l.layout.geometry.size) l.slots.items;
  count : vec_len l.slots ≡ l.counter;
  most : l.counter ≤ max (vec_len l.fn.slots) l.count;
  more : vec_len l.fn.slots ≤ l.counter;
}
