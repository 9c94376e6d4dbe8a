use Rattle.vr_resident.proofs.Steps.{seat_then}
use Rattle.vr_resident.proofs.Beginning.{taken_then}
use Rattle.vr_resident.proofs.making.own_sixteen.Goals as goal

pub loop-got-preserved : goal.loop-got-preserved
loop-got-preserved c =
    let i = c.loop-got.invariant in
    record {
      so_far = taken_then c.loop-got._got c.args.frames.now c.loop-got.frames c.own_one.new.frames
          i.so_far c.in_ok-own_one.ensures.all;
      seated = c.own_one.ensures.seated;
      seat = seat_then c.args.frames.now c.loop-got.frames c.own_one.new.frames i.seat
          c.own_one.ensures.seat;
    }

pub returns-in_err-own_one-clause-seat : goal.returns-in_err-own_one-clause-seat
returns-in_err-own_one-clause-seat c =
    seat_then c.args.frames.now c.loop-got.frames c.own_one.new.frames c.loop-got.invariant.seat
    c.own_one.ensures.seat
