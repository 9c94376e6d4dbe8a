use Rattle.std.proofs.Common.{◌≡◌, ◌++◌, All, drop, length, map, take}
use Rattle.vr_keyed.specs.Ready.{refreshed}
use Rattle.vr_space.specs.Keyed.{Keyed}
use Rattle.vr_keyed.specs.Slots.{HasBytes, IsSlotOf, met_in}
use Rattle.vr_keyed.proofs.set.refresh_each.Given as goal

-- what is kept of those before the index is what the block has now
abbrev pub invariant-loop-slot : goal.invariant-loop-slot
invariant-loop-slot l = record {
  slots : (part : Keyed) → All (IsSlotOf part) l.fn.slots → All (IsSlotOf part) l.slots;
  bytes : All (HasBytes (length l.bytes)) l.slots;
  met : map met_in l.slots
      ≡ map (refreshed l.number l.bytes) (take l.slot-index (map met_in l.fn.slots))
      ++ drop l.slot-index (map met_in l.fn.slots);
}
