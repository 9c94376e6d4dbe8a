use Rattle.vr_worker.proofs.Seats.{HaveSeats}
use Rattle.vr_worker.proofs.readying.seats_of.Given as goal

abbrev pub invariant-loop-deck : goal.invariant-loop-deck
invariant-loop-deck l = HaveSeats l.fn.decks.items l.deck-iterator.rest.items
    l.initial.ledgers l.ledgers l.start l.seats.items
