use Rattle.std.proofs.Common.{◌≡◌, ◌++◌, map, take, drop}
use Rattle.vr_recent.specs.Buffers.{forgot}
use Rattle.vr_recent.proofs.order.forget.Given as goal

abbrev pub invariant-loop-buffer : goal.invariant-loop-buffer
invariant-loop-buffer l = l.buffers
    ≡ map (forgot l.n) (take l.buffer-index l.initial.buffers)
    ++ drop l.buffer-index l.initial.buffers
