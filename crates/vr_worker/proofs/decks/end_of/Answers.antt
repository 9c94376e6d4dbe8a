use Rattle.std.proofs.Common.{All, subst}
use Rattle.std.proofs.lemmas.List.{take_all}
use Rattle.std.proofs.lemmas.List.Elements.{All-more}
use Rattle.vr_worker.specs.Ready.{IsDone}
use Rattle.vr_worker.proofs.decks.end_of.Goals as goal

pub loop-seat-preserved : goal.loop-seat-preserved
loop-seat-preserved c = All-more IsDone c.args.seats.now c.loop-seat.seat-index c.seat-item.result
    c.loop-seat-test.true c.loop-seat.invariant (subst IsDone c.seat-item.is c.in_ok-seat.was)

pub returns : goal.returns
returns c = subst (All IsDone)
    (take_all c.loop-seat.seat-index c.args.seats.now c.loop-seat-test.false) c.loop-seat.invariant
