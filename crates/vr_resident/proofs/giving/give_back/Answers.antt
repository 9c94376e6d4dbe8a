use Rattle.std.proofs.Common.{arith}
use Rattle.vr_resident.specs.Cache.{entries_of}
use Rattle.vr_resident.specs.declared.place.Sought.TheVariants as sought
use Rattle.vr_resident.proofs.Moves.{count_none}
use Rattle.vr_resident.proofs.Steps.{seat_none, seat_then}
use Rattle.vr_resident.proofs.Returning.{fit_of_free, gave_none, gives_one, one_free, free_left}
use Rattle.vr_resident.proofs.Returning.{buffers_given}
use Rattle.vr_resident.proofs.giving.give_back.Goals as goal

pub loop-given-init : goal.loop-given-init
loop-given-init c = record {
  so_far = gave_none (entries_of c.args.frames.now);
  some = omega arith;
  fewer = omega arith;
  framed = c.requires;
  seat = seat_none c.args.frames.now;
}

pub returns-in-None-clause-count : goal.returns-in-None-clause-count
returns-in-None-clause-count c =
    let i = c.loop-given.invariant in
    omega (
      arith,
      i.some,
      c.loop-given-test.true,
      c.buffer_count-spare.ensures,
      free_left
          c.args.frames.now c.loop-given.frames c.loop-given.given i.so_far,
      count_none sought.Free
          (entries_of c.loop-given.frames) c.in-None.ensures,
    )

pub give-requires-clause-shared : goal.give-requires-clause-shared
give-requires-clause-shared c =
    fit_of_free (entries_of c.loop-given.frames) c.in-Some.number c.in-Some.ensures

pub loop-given-preserved : goal.loop-given-preserved
loop-given-preserved c =
    let i = c.loop-given.invariant in
    let last = c.in-Some.ensures in
    let given = c.give.ensures.given in
    let less = buffers_given c.loop-given.frames c.give.new.frames c.in-Some.number last given in
    record {
      so_far = gives_one c.args.frames.now c.loop-given.frames c.give.new.frames c.loop-given.given
          c.in-Some.number i.so_far last given;
      some = omega (
        arith,
        one_free (entries_of c.loop-given.frames) c.in-Some.number last,
        free_left c.args.frames.now c.loop-given.frames c.loop-given.given i.so_far,
      );
      fewer = omega (arith, less, i.fewer);
      framed = record {
        seated = c.give.ensures.seated;
        sixteen =
            omega (arith, less, i.fewer, c.loop-given-test.true, c.buffer_count-spare.ensures);
      };
      seat = seat_then c.args.frames.now c.loop-given.frames c.give.new.frames i.seat
          c.give.ensures.seat;
    }
