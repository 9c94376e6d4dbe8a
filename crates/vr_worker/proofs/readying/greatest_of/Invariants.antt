use Rattle.std.proofs.Common.{◌≡◌, All, take}
use Rattle.vr_history.specs.Merged.{IsStamped}
use Rattle.vr_trace.specs.Growing.{greatest_last}
use Rattle.vr_worker.proofs.readying.greatest_of.Given as goal

abbrev pub invariant-loop-volume : goal.invariant-loop-volume
invariant-loop-volume g l = record {
  last : l.last ≡ greatest_last g.V.Served.entries (take l.volume-index l.volumes);
  stamped : All (λ (volume : g.row.V.Denot). IsStamped 0 (g.V.Served.entries volume))
      (take l.volume-index l.volumes);
}
