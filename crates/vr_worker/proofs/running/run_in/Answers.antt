use Rattle.std.proofs.Common.{All, subst, ℕ}
use Rattle.vr_worker.specs.Ready.{IsReady}
use Rattle.vr_worker.proofs.Told.{ran-then, turns-ran}
use Rattle.vr_worker.proofs.running.run_in.Goals as goal

pub take_all-requires-clause-turns : goal.take_all-requires-clause-turns
take_all-requires-clause-turns g c =
    let N = g.N.Names in
    turns-ran N.ledgers N.decks N.count
    (subst (λ (count : ℕ). All (IsReady N.ledgers N.decks count) c.args.seats.now) c.requires.many
    c.requires.ready) c.run_each.ensures

pub returns-clause-ran : goal.returns-clause-ran
returns-clause-ran g c = ran-then c.run_each.ensures c.take_all.ensures.seats
