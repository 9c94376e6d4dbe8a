use Rattle.std.proofs.Common.{◌≤◌, length}
use Rattle.std.specs.Prelude.{vec_capacity}
use Rattle.vr_job.specs.Shelf.{AreOpening}
use Rattle.vr_job.proofs.shelf_run.open_all.Given as goal

abbrev pub invariant-loop-device : goal.invariant-loop-device
invariant-loop-device g l = record {
  opening : AreOpening g.D.BlockDevice.tells g.D.BlockDevice.seen g.D.BlockDevice.faults
      l.fn.shelf.items l.device-iterator.rest.items l.volumes.items l.unopened.items l.result;
  room : length l.fn.shelf.items ≤ vec_capacity l.volumes;
  room_back : length l.fn.shelf.items ≤ vec_capacity l.unopened;
}
