use Rattle.std.proofs.Common.{◌≡◌, length}
use Rattle.vr_frames.specs.Search.{IsFullRow}
use Rattle.vr_frames.proofs.opening.buffers.Given as goal

-- the slots so far are full
abbrev pub invariant-loop : goal.invariant-loop
invariant-loop l = IsFullRow l.size l.slots.items × (length l.slots.items ≡ l.counter)
