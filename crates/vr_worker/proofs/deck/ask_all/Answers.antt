use Rattle.std.proofs.Common.{[], ◌∷◌, ◌+◌, Err, List, Ok, refl, subst, take}
use Rattle.vr_types.specs.declared.bound.Bound.{Bound}
use Rattle.vr_worker.specs.Deck.{HasRun}
use Rattle.vr_worker.proofs.Runs.{one-more, run-failed, run-none, run-then}
use Rattle.vr_worker.proofs.Turns.{turns-grown}
use Rattle.vr_worker.proofs.deck.ask_all.Goals as goal

pub loop-bound-init : goal.loop-bound-init
loop-bound-init g c = record {
  ran = run-none c.args.deck c.args.last.now c.args.turns.now [] (Ok tt) refl;
  calm = c.requires.calm;
}

pub ask_one-requires-clause-turns : goal.ask_one-requires-clause-turns
ask_one-requires-clause-turns g c = λ lifetimes lives.
    let so_far = c.loop-bound.invariant.ran in
    turns-grown g.N.Names.ledgers c.args.deck c.args.turns.now c.loop-bound.turns so_far.made
    so_far.turns c.requires.turns

pub returns-in_err-ask_one : goal.returns-in_err-ask_one
returns-in_err-ask_one g c =
    let i = c.loop-bound.bound-index in
    let requests = c.args.requests.now in
    let bound = c.bound-item.result in
    let fault = c.in_err-ask_one.field-0.0 in
    run-failed c.args.deck c.args.last.now c.ask_one.new.last (i + 1) requests fault
    c.from_residual.result c.args.turns.now c.ask_one.new.turns c.from_residual.ensures.1
    (subst (λ (asked : List Bound). HasRun c.args.deck asked (Err fault) c.args.last.now
    c.ask_one.new.last c.args.turns.now c.ask_one.new.turns)
    (one-more requests i bound c.loop-bound-test.true c.bound-item.is)
    (run-then c.args.deck c.args.last.now c.loop-bound.last c.ask_one.new.last
    (take i requests) (bound ∷ []) (Err fault) c.args.turns.now c.loop-bound.turns
    c.ask_one.new.turns c.loop-bound.invariant.ran c.in_err-ask_one.ensures.ran))

pub loop-bound-preserved : goal.loop-bound-preserved
loop-bound-preserved g c =
    let i = c.loop-bound.bound-index in
    let requests = c.args.requests.now in
    let bound = c.bound-item.result in
    record {
      ran = subst (λ (asked : List Bound). HasRun c.args.deck asked (Ok tt) c.args.last.now
          c.ask_one.new.last c.args.turns.now c.ask_one.new.turns)
          (one-more requests i bound c.loop-bound-test.true c.bound-item.is)
          (run-then c.args.deck c.args.last.now c.loop-bound.last c.ask_one.new.last
          (take i requests) (bound ∷ []) (Ok tt) c.args.turns.now c.loop-bound.turns
          c.ask_one.new.turns c.loop-bound.invariant.ran c.in_ok-ask_one.ensures.ran);
      calm = c.in_ok-ask_one.ensures.calm;
    }
