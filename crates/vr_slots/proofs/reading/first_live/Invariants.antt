use Rattle.vr_slots.proofs.ReadingSlots.{IsPassing}
use Rattle.vr_slots.proofs.reading.first_live.Given as goal

abbrev pub invariant-loop-slot : goal.invariant-loop-slot
invariant-loop-slot l = IsPassing l.block l.from l.slots l.slot
