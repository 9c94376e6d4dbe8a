use Rattle.std.proofs.Common.{◌≡◌, All, map, take}
use Rattle.vr_worker.specs.Ready.{IsUnused, history_of}
use Rattle.vr_worker.proofs.readying.ledgers_of.Given as goal

abbrev pub invariant-loop-volume : goal.invariant-loop-volume
invariant-loop-volume g l = record {
  histories : map history_of l.ledgers.items
      ≡ map g.V.Served.entries (take l.volume-index l.volumes);
  unused : All IsUnused l.ledgers.items;
}
