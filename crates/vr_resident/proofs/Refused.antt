-- How the frames of a cache run out.
use Rattle.std.proofs.Common.{◌+◌, ◌<◌, ◌≤◌, ⊎_elim, ℕ, refl, sym, subst, arith, add-one}
use Rattle.std.specs.Arc.{arc_value}
use Rattle.vr_frames.specs.Frames.{IsFrameOf, FindsAllOut}
use Rattle.vr_resident.specs.Making.{IsTaken, TakesOne, TakesSome, RunsOut}
use Rattle.vr_resident.specs.Cache.{KeepsSeat, TakesFrame, GetsNone, bare_count, pool_of}
use Rattle.vr_resident.specs.declared.frames.Frames.{Frames}

-- a further frame was taken
pub took_then : (got : ℕ) (first old new : Frames)
    → TakesSome (pool_of first) got first.seat old.seat → KeepsSeat first old → TakesFrame old new
    → TakesSome (pool_of first) (got + 1) first.seat new.seat
took_then got first old new took seat t =
    let one : TakesOne (pool_of first) old.seat new.seat = record {
      frame = t.frame;
      of_pool = subst (λ (p : _). IsFrameOf (arc_value p) t.frame) seat.pool_same t.of_pool;
      got = t.got;
    } in
    subst (λ (n : ℕ). TakesSome (pool_of first) n first.seat new.seat) (sym (add-one got))
    (old.seat, took, one)

-- a further one was not home
pub ran_out : (first old new : Frames) (got : ℕ) → got < 16 → 16 ≤ bare_count first
    → IsTaken got first old → TakesSome (pool_of first) got first.seat old.seat
    → KeepsSeat first old → GetsNone old new → RunsOut (pool_of first) got first.seat new.seat
ran_out first old new got below bare so_far took seat none = record {
  last = old.seat;
  took = took;
  refused = new.seat;
  none_home = ⊎_elim (λ nothing. absurd (omega (arith, nothing, so_far.bare, below, bare)))
      (λ out. subst (λ (p : _). FindsAllOut (arc_value p) old.seat new.seat) seat.pool_same out)
      none.1;
  claims = λ k. refl;
}
