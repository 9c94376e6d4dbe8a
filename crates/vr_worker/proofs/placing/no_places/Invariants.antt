use Rattle.std.proofs.Common.{◌≡◌}
use Rattle.vr_worker.specs.Placing.{ArePut, taken}
use Rattle.vr_worker.proofs.placing.no_places.Given as goal

abbrev pub invariant-loop : goal.invariant-loop
invariant-loop g l = record {
  put : ArePut g.V.Served.number l.counter l.places.items;
  none : taken l.places.items ≡ 0;
}
