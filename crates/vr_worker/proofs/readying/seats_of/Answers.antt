use Rattle.std.proofs.Common.{List, refl, subst, sym}
use Rattle.vr_worker.specs.declared.deck.Seat.{Seat}
use Rattle.vr_worker.proofs.Seats.{HaveSeats, all-begun, next-free, next-seated, no-seats}
use Rattle.vr_worker.proofs.Seats.{same-histories}
use Rattle.vr_worker.proofs.readying.seats_of.Goals as goal

pub loop-deck-init : goal.loop-deck-init
loop-deck-init c = no-seats c.args.decks.items c.into_iter-deck-iterator.result.rest.items
    c.args.ledgers.now c.args.start c.new-seats.result.items
    c.into_iter-deck-iterator.ensures.into_iter_gives.0 c.new-seats.ensures.items

pub enter_all-requires : goal.enter_all-requires
enter_all-requires c = record {
  free = next-free c.args.decks.items c.in-Some.deck c.next.new.self.rest.items
      c.loop-deck.deck-iterator.rest.items c.args.ledgers.now c.loop-deck.ledgers c.args.start
      c.loop-deck.seats.items c.loop-deck.invariant c.in-Some.ensures.steps.0 c.requires.once
      c.requires.unused;
}

pub loop-deck-preserved : goal.loop-deck-preserved
loop-deck-preserved c = subst
    (λ (seats : List Seat). HaveSeats c.args.decks.items c.next.new.self.rest.items
    c.args.ledgers.now c.enter_all.new.ledgers c.args.start seats) (sym c.in_ok-push.ensures.items)
    (next-seated c.args.decks.items c.in-Some.deck c.next.new.self.rest.items
    c.loop-deck.deck-iterator.rest.items c.args.ledgers.now c.loop-deck.ledgers c.args.start
    c.loop-deck.seats.items c.loop-deck.invariant c.in-Some.ensures.steps.0
    c.enter_all.new.ledgers _ c.in_ok-turns.ensures.entered refl c.in_ok-turns.ensures.turns refl
    refl)

pub returns-clause-begun : goal.returns-clause-begun
returns-clause-begun c = all-begun c.loop-deck.invariant

pub returns-clause-histories : goal.returns-clause-histories
returns-clause-histories c = same-histories c.loop-deck.invariant
