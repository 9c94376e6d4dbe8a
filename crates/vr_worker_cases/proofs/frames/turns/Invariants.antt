use Rattle.std.proofs.Common.{◌≡◌, []}
use Rattle.vr_frames.specs.Frames.{frames_of, parts_of, IsSeatOf}
use Rattle.vr_worker_cases.proofs.frames.turns.Given as goal

abbrev pub invariant-loop : goal.invariant-loop
invariant-loop l = IsSeatOf l.pool l.seat × (parts_of l.seat ≡ parts_of l.initial.seat)
    × (frames_of l.seat ≡ [])
