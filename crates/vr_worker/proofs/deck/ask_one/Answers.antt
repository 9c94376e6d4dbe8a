use Rattle.std.proofs.Common.{[], ◌∷◌, Err}
use Rattle.vr_trace.specs.declared.no.RunNo.TheVariants.{Memory}
use Rattle.vr_worker.proofs.Runs.{run-none, run-one}
use Rattle.vr_worker.proofs.Turns.{calm-one}
use Rattle.vr_worker.proofs.deck.ask_one.Goals as goal

pub returns-in_default-clause-ran : goal.returns-in_default-clause-ran
returns-in_default-clause-ran g c = run-none c.args.deck c.args.last.now c.args.turns.now
    (c.args.bound.now ∷ []) (Err Memory) tt

pub returns-then-place-turns-clause-ran : goal.returns-then-place-turns-clause-ran
returns-then-place-turns-clause-ran g c = run-none c.args.deck c.args.last.now c.args.turns.now
    (c.args.bound.now ∷ []) (Err Memory) tt

pub returns-clause-ran : goal.returns-clause-ran
returns-clause-ran g c =
    let bound = c.args.bound.now in
    let old = c.index-turns-place.result in
    run-one c.args.deck c.args.last.now c.run_request.new.last bound c.run_request.result
    c.args.turns.now old c.run_request.new.turn c.if-place-turns.false
    (c.requires.turns bound.volume old c.if-place-turns.false).1 c.run_request.ensures

pub returns-clause-calm : goal.returns-clause-calm
returns-clause-calm g c =
    calm-one c.args.turns.now c.args.bound.now.volume c.args.bound.now.line
    c.args.bound.now.request c.run_request.result c.args.last.now c.run_request.new.last
    c.index-turns-place.result c.run_request.new.turn c.if-place-turns.false
    c.run_request.ensures c.requires.calm
