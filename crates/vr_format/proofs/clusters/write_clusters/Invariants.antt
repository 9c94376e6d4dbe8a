use Rattle.std.proofs.Common.{◌≡◌, length, IsTrue}
use Rattle.vr_types.specs.Regions.{Touches}
use Rattle.vr_log.specs.LogNow.{IsOf}
use Rattle.vr_mount.specs.Touched.{Anything}
use Rattle.vr_format.specs.Planned.{AreNew, InClusters}
use Rattle.vr_format.proofs.clusters.write_clusters.Given as goal

abbrev pub invariant-loop-entry : goal.invariant-loop-entry
invariant-loop-entry g l = record {
  area : l.area ≡ l.entry-index;
  new : IsTrue g.D.BlockDevice.tells → AreNew l.geometry l.clusters l.entry-index
      (g.D.BlockDevice.seen l.device).cur;
  after : IsTrue g.D.BlockDevice.tells → Touches (InClusters l.geometry (length l.clusters))
      Anything (g.D.BlockDevice.seen l.fn.device) (g.D.BlockDevice.seen l.device);
  shape : IsOf l.geometry (g.D.BlockDevice.seen l.device);
  faults : g.D.BlockDevice.faults l.device ≡ g.D.BlockDevice.faults l.fn.device;
  buffer : length l.block ≡ l.geometry.size;
}
