use Rattle.std.proofs.Common.{◌≡◌, ℕ, ◌-◌, ◌<◌, ◌≤◌, false, get_or}
use Rattle.std.specs.Prelude.{IsTrue}
use Rattle.std.specs.Mem.Slots.{slots_filled, slots_len}
use Rattle.vr_frames.proofs.closing.empty.Given as goal

-- the slots from `next` on are full, and those below are taken
abbrev pub invariant-loop-next : goal.invariant-loop-next
invariant-loop-next l = ((k : ℕ) → l.next ≤ k → k < slots_len l.closed.slots
    → IsTrue (get_or (slots_filled l.closed.slots) k false))
    × ((k : ℕ) → k < l.next → get_or (slots_filled l.closed.slots) k false ≡ false)

abbrev pub decreases-loop-next : goal.decreases-loop-next
decreases-loop-next l = slots_len l.closed.slots - l.next
