use Rattle.std.proofs.Common.{List, ℕ, take, sym, ◌∙◌, subst, refl}
use Rattle.std.proofs.lemmas.List.{take_more}
use Rattle.vr_types.proofs.CallerLemmas.{keeps-then}
use Rattle.vr_resident.specs.Held.{over}
use Rattle.vr_resident.specs.Cache.{IsForced, held_by}
use Rattle.vr_resident.proofs.Steps.{got_ok, still, seat_none, seat_then}
use Rattle.vr_resident.proofs.Flushing.{forces_nothing, forces_more}
use Rattle.vr_resident.proofs.writing.write_listed.Goals as goal

pub loop-n-init : goal.loop-n-init
loop-n-init g c = record {
  so_far = forces_nothing c.args.frames.now;
  kept = c.requires;
  seat = seat_none c.args.frames.now;
  after = still g.D.BlockDevice.tells (g.D.BlockDevice.seen c.args.device.now)
      (held_by c.args.frames.now)
      (λ told image left. g.met.D.BlockDevice.images_may c.args.device.now image told left);
  faults = refl;
}

pub loop-n-preserved : goal.loop-n-preserved
loop-n-preserved g c =
    let seen = g.D.BlockDevice.seen in
    let i = c.loop-n.invariant in
    let e = c.write_block.ensures in
    let ok = sym c.is_err.ensures.value ∙ c.if-is_err.false in
    record {
      so_far = subst
          (λ (listed : List ℕ). IsForced listed c.args.frames.now c.write_block.new.frames)
          (sym (take_more c.args.list.now c.loop-n.n-index 0 c.loop-n-test.true))
          (forces_more c.args.frames.now c.loop-n.frames c.write_block.new.frames
          (take c.loop-n.n-index c.args.list.now) _ i.so_far
          (got_ok c.write_block.result _ ok e.ok));
      kept = e.kept;
      seat = seat_then c.args.frames.now c.loop-n.frames c.write_block.new.frames i.seat e.seat;
      after = keeps-then g.D.BlockDevice.tells
          (over (seen c.args.device.now) (held_by c.args.frames.now))
          (over (seen c.loop-n.device) (held_by c.loop-n.frames))
          (over (seen c.write_block.new.device) (held_by c.write_block.new.frames)) i.after e.after;
      faults = got_ok c.write_block.result _ ok e.fault.0 ∙ i.faults;
    }
