use Rattle.std.proofs.Common.{arith}
use Rattle.vr_resident.specs.Cache.{TakesFrame, GetsNone}
use Rattle.vr_resident.proofs.Steps.{seat_then}
use Rattle.vr_resident.proofs.Beginning.{if_is_none, if_is_some, taken_then, taken_one, out_then}
use Rattle.vr_resident.proofs.Refused.{took_then, ran_out}
use Rattle.vr_resident.proofs.making.take_sixteen.Goals as goal

pub returns-then-is_none-clause-out : goal.returns-then-is_none-clause-out
returns-then-is_none-clause-out c =
    let i = c.loop-got.invariant in
    let none = if_is_none c.take_frame.result (GetsNone c.loop-got.frames c.take_frame.new.frames)
    c.is_none.result c.is_none.ensures c.if-is_none.true c.take_frame.ensures.none in
    out_then c.args.frames.now c.loop-got.frames c.take_frame.new.frames c.loop-got.got
    c.loop-got-test.true c.requires.bare i.so_far i.claims i.seat none

pub returns-then-is_none-clause-after : goal.returns-then-is_none-clause-after
returns-then-is_none-clause-after c =
    let i = c.loop-got.invariant in
    let none = if_is_none c.take_frame.result (GetsNone c.loop-got.frames c.take_frame.new.frames)
    c.is_none.result c.is_none.ensures c.if-is_none.true c.take_frame.ensures.none in
    ran_out c.args.frames.now c.loop-got.frames c.take_frame.new.frames c.loop-got.got
    c.loop-got-test.true c.requires.bare i.so_far i.took i.seat none

pub loop-got-preserved : goal.loop-got-preserved
loop-got-preserved c =
    let i = c.loop-got.invariant in
    let t = if_is_some c.take_frame.result (TakesFrame c.loop-got.frames c.take_frame.new.frames)
    c.is_none.result c.is_none.ensures c.if-is_none.false c.take_frame.ensures.got in
    record {
      so_far = taken_then c.loop-got.got c.args.frames.now c.loop-got.frames c.take_frame.new.frames
          i.so_far (taken_one c.loop-got.frames c.take_frame.new.frames t);
      took = took_then c.loop-got.got c.args.frames.now c.loop-got.frames c.take_frame.new.frames
          i.took i.seat t;
      claims = λ k. omega (arith, i.claims k, t.got.claims k);
      seated = c.take_frame.ensures.seated;
      seat = seat_then c.args.frames.now c.loop-got.frames c.take_frame.new.frames i.seat
          c.take_frame.ensures.seat;
    }
