use Rattle.vr_resident.specs.Cache.{IsSeated, KeepsSeat}
use Rattle.vr_resident.specs.Making.{IsTaken}
use Rattle.vr_resident.proofs.making.own_sixteen.Given as goal

abbrev pub invariant-loop-got : goal.invariant-loop-got
invariant-loop-got l = record {
  so_far : IsTaken l._got l.fn.frames l.frames;
  seated : IsSeated l.frames;
  seat : KeepsSeat l.fn.frames l.frames;
}
