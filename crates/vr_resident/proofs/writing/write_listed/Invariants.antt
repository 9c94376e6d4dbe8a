use Rattle.std.proofs.Common.{◌≡◌, take}
use Rattle.vr_types.specs.Blocks.{Keeps}
use Rattle.vr_resident.specs.Held.{over}
use Rattle.vr_resident.specs.Cache.{IsKept, KeepsSeat, IsForced, held_by}
use Rattle.vr_resident.proofs.writing.write_listed.Given as goal

-- the blocks listed so far are written
abbrev pub invariant-loop-n : goal.invariant-loop-n
invariant-loop-n g l =
    let seen = g.D.BlockDevice.seen in
    record {
      so_far : IsForced (take l.n-index l.list) l.fn.frames l.frames;
      kept : IsKept g.D.BlockDevice.tells (seen l.device) l.frames;
      seat : KeepsSeat l.fn.frames l.frames;
      after : Keeps g.D.BlockDevice.tells (over (seen l.fn.device) (held_by l.fn.frames))
          (over (seen l.device) (held_by l.frames));
      faults : g.D.BlockDevice.faults l.device ≡ g.D.BlockDevice.faults l.fn.device;
    }
