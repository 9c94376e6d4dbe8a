use Rattle.std.proofs.Common.{◌≡◌, ◌≤◌}
use Rattle.vr_types.specs.Blocks.{Keeps}
use Rattle.vr_resident.specs.Held.{over, changed_count}
use Rattle.vr_resident.specs.Cache.{IsKept, KeepsSeat, IsFlushed, held_by}
use Rattle.vr_resident.proofs.writing.flush.Given as goal

-- this many blocks are written
abbrev pub invariant-loop-written : goal.invariant-loop-written
invariant-loop-written g l =
    let seen = g.D.BlockDevice.seen in
    record {
      so_far : IsFlushed l.written l.fn.frames l.frames;
      some : l.written ≤ changed_count (held_by l.fn.frames);
      kept : IsKept g.D.BlockDevice.tells (seen l.device) l.frames;
      seat : KeepsSeat l.fn.frames l.frames;
      after : Keeps g.D.BlockDevice.tells (over (seen l.fn.device) (held_by l.fn.frames))
          (over (seen l.device) (held_by l.frames));
      faults : g.D.BlockDevice.faults l.device ≡ g.D.BlockDevice.faults l.fn.device;
    }
