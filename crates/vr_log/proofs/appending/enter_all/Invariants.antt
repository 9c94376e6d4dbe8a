use Rattle.std.proofs.Common.{◌≡◌, ◌≤◌, ◌+◌, IsTrue, take}
use Rattle.vr_types.specs.Regions.{Touches}
use Rattle.vr_log.specs.Live.{live_in, need_of_all, used_by}
use Rattle.vr_log.specs.LogNow.{AreAppended, HasLog, IsOf, with_records}
use Rattle.vr_log.specs.Standing.{InLog, LogStands}
use Rattle.vr_log.proofs.appending.enter_all.Given as goal

abbrev pub invariant-loop-rec : goal.invariant-loop-rec
invariant-loop-rec g l = record {
  log : AreAppended l.fn.log (take l.rec-index l.records) l.log;
  shape : IsOf l.log.geometry (g.B.Blocks.seen l.blocks);
  stands : IsTrue g.B.Blocks.tells → LogStands l.log (g.B.Blocks.seen l.blocks);
  faults : g.B.Blocks.faults l.blocks ≡ g.B.Blocks.faults l.fn.blocks;
  used : used_by l.log.records ≤ used_by l.fn.log.records
      + need_of_all (live_in l.fn.log.records) (take l.rec-index l.records);
  moments : IsTrue g.B.Blocks.tells → Touches (InLog l.fn.log.geometry)
      (HasLog (with_records l.fn.log l.records)) (g.B.Blocks.seen l.fn.blocks)
      (g.B.Blocks.seen l.blocks);
}
