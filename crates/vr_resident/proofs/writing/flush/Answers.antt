use Rattle.std.proofs.Common.{◌≤◌, sym, ◌∙◌, refl, arith}
use Rattle.vr_types.proofs.CallerLemmas.{keeps-then}
use Rattle.vr_resident.specs.Held.{over, changed_count}
use Rattle.vr_resident.specs.Cache.{WritesAt, held_by}
use Rattle.vr_resident.proofs.Steps.{got_ok, still, seat_none, seat_then}
use Rattle.vr_resident.proofs.Flushing.{flushes_none, flushes_one, still_changed, all_flushed}
use Rattle.vr_resident.proofs.Flushing.{written_seat}
use Rattle.vr_resident.proofs.writing.flush.Goals as goal

pub loop-written-init : goal.loop-written-init
loop-written-init g c = record {
  so_far = flushes_none c.args.frames.now;
  some = omega arith;
  kept = c.requires;
  seat = seat_none c.args.frames.now;
  after = still g.D.BlockDevice.tells (g.D.BlockDevice.seen c.args.device.now)
      (held_by c.args.frames.now)
      (λ told image left. g.met.D.BlockDevice.images_may c.args.device.now image told left);
  faults = refl;
}

pub returns-in-None-clause-count : goal.returns-in-None-clause-count
returns-in-None-clause-count g c =
    let most : changed_count (held_by c.args.frames.now) ≤ c.loop-written.written =
    all_flushed c.args.frames.now c.loop-written.frames c.loop-written.written
    c.loop-written.invariant.so_far c.in-None.ensures in
    omega (arith, most, c.loop-written.invariant.some, c.loop-written-test.true)

pub loop-written-preserved : goal.loop-written-preserved
loop-written-preserved g c =
    let seen = g.D.BlockDevice.seen in
    let i = c.loop-written.invariant in
    let e = c.write_out.ensures in
    let last = c.in-Some.ensures in
    let ok = sym c.is_err.ensures.value ∙ c.if-is_err.false in
    let written = got_ok c.write_out.result
    (WritesAt c.in-Some.number c.loop-written.frames c.write_out.new.frames) ok e.ok last.before
    last.after last.place last.split in
    record {
      so_far = flushes_one c.args.frames.now c.loop-written.frames c.write_out.new.frames
          c.loop-written.written c.in-Some.number i.so_far last written;
      some = still_changed c.args.frames.now c.loop-written.frames c.write_out.new.frames
          c.loop-written.written c.in-Some.number i.so_far last written;
      kept = e.kept;
      seat = seat_then c.args.frames.now c.loop-written.frames c.write_out.new.frames i.seat
          (written_seat c.loop-written.frames c.write_out.new.frames c.in-Some.number last.before
          last.after last.place last.split written);
      after = keeps-then g.D.BlockDevice.tells
          (over (seen c.args.device.now) (held_by c.args.frames.now))
          (over (seen c.loop-written.device) (held_by c.loop-written.frames))
          (over (seen c.write_out.new.device) (held_by c.write_out.new.frames)) i.after e.after;
      faults = got_ok c.write_out.result _ ok e.fault.0 ∙ i.faults;
    }
