use Rattle.std.proofs.Common.{◌≡◌, All, length}
use Rattle.vr_recent.specs.Buffers.{IsEmpty}
use Rattle.vr_recent.proofs.making.buffers.Given as goal

abbrev pub invariant-loop-made : goal.invariant-loop-made
invariant-loop-made l = (length l.buffers.items ≡ l._made)
    × All (IsEmpty l.size) l.buffers.items
