use Rattle.std.proofs.Common.{◌≡◌}
use Rattle.std.specs.Prelude.{vec_capacity}
use Rattle.vr_trace.specs.Volumes.{entries_of}
use Rattle.vr_job.specs.Shelf.{AreBeingClosed}
use Rattle.vr_job.proofs.shelf_run.close_all.Given as goal

abbrev pub invariant-loop-serving : goal.invariant-loop-serving
invariant-loop-serving g l = record {
  closing : AreBeingClosed g.D.BlockDevice.tells g.D.BlockDevice.seen g.D.BlockDevice.faults
      l.fn.volumes.items l.serving-iterator.rest.items l.shelf.items
      (entries_of l.histories.items) l.unsynced;
  room : vec_capacity l.shelf ≡ vec_capacity l.initial.shelf;
  histories_room : vec_capacity l.histories ≡ vec_capacity l.initial.histories;
}
