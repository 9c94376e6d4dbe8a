use Rattle.std.proofs.Common.{◌≡◌, ◌++◌, All, map, take, drop, length}
use Rattle.vr_chained.specs.Met.{IsMetOf, met_in}
use Rattle.vr_chained.specs.Setting.{refreshed}
use Rattle.vr_chained.proofs.set.refresh_slots.Given as goal

-- the slots before the index are refreshed, and the others are as they were
abbrev pub invariant-loop-met : goal.invariant-loop-met
invariant-loop-met l = record {
  met : map met_in l.slots
      ≡ map (refreshed l.number l.bytes) (take l.met-index (map met_in l.fn.slots))
      ++ drop l.met-index (map met_in l.fn.slots);
  room : All (IsMetOf (length l.bytes)) l.slots;
  count : length l.slots ≡ length l.fn.slots;
}
