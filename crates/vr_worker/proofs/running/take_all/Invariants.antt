use Rattle.std.proofs.Common.{◌≡◌, ◌+◌, ◌≤◌, All, length}
use Rattle.std.specs.Prelude.{vec_capacity}
use Rattle.vr_worker.specs.Placing.{AreWhole}
use Rattle.vr_worker.specs.Ready.{AreLater, AreSameSeats, AreTold}
use Rattle.vr_worker.proofs.running.take_all.Given as goal

abbrev pub invariant-loop-one : goal.invariant-loop-one
invariant-loop-one g l = record {
  count : length l.back.items + length l.one-iterator.rest.items ≡ length l.fn.places.items;
  room : length l.fn.places.items ≤ vec_capacity l.back;
  whole : AreWhole g.V.Served.number (length l.back.items) l.one-iterator.rest.items;
  later : AreLater g.V.Served.number g.V.Served.entries g.V.Served.follows g.N.Names.start
      g.N.Names.decks l.back.items;
  told : All (AreTold g.V.Served.entries l.back.items) l.seats;
  seats : AreSameSeats l.initial.seats l.seats;
}
