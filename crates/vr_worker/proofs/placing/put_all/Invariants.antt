use Rattle.std.proofs.Common.{◌≡◌, ◌+◌, length}
use Rattle.vr_worker.specs.Placing.{ArePut, taken}
use Rattle.vr_worker.proofs.placing.put_all.Given as goal

abbrev pub invariant-loop-latch : goal.invariant-loop-latch
invariant-loop-latch g l = record {
  put : ArePut g.V.Served.number g.N.Names.count l.places;
  taken_is : taken l.places + length l.latch-iterator.rest.items ≡ length l.fn.latches.items;
}
