use Rattle.std.proofs.Common.{◌≡◌, ◌+◌, ◌≤◌, length}
use Rattle.std.specs.List.{AllZip}
use Rattle.std.specs.Prelude.{vec_capacity}
use Rattle.vr_worker.specs.Latched.{IsLatched}
use Rattle.vr_worker.proofs.running.latch_all.Given as goal

abbrev pub invariant-loop-volume : goal.invariant-loop-volume
invariant-loop-volume g l = record {
  can : (goal.iterator-loop-volume g).can_next l.volume-iterator;
  finite : (goal.iterator-loop-volume g).is_finite l.volume-iterator;
  latched : AllZip (IsLatched g.V.Served.number g.V.Served.entries g.V.Served.follows
      g.N.Names.count g.N.Names.start g.N.Names.ledgers g.N.Names.decks)
      l.volume-iterator.rest.items l.ledgers.rest.items;
  count : length l.latches.items + length l.volume-iterator.rest.items
      ≡ length l.fn.volumes.items;
  room : length l.fn.volumes.items ≤ vec_capacity l.latches;
}
