use Rattle.std.proofs.Common.{◌≤◌, ℕ}
use Rattle.vr_frames.specs.Frames.{failed_claims}
use Rattle.vr_resident.specs.Cache.{IsSeated, KeepsSeat, pool_of}
use Rattle.vr_resident.specs.Making.{IsTaken, TakesSome}
use Rattle.vr_resident.proofs.making.take_sixteen.Given as goal

abbrev pub invariant-loop-got : goal.invariant-loop-got
invariant-loop-got l = record {
  so_far : IsTaken l.got l.fn.frames l.frames;
  took : TakesSome (pool_of l.fn.frames) l.got l.fn.frames.seat l.frames.seat;
  claims : (k : ℕ) → failed_claims l.fn.frames.seat k ≤ failed_claims l.frames.seat k;
  seated : IsSeated l.frames;
  seat : KeepsSeat l.fn.frames l.frames;
}
