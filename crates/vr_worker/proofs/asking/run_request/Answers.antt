use Rattle.std.proofs.Common.{Bool, false, true, subst, sym}
use Rattle.vr_worker.specs.Latched.{HasTaken}
use Rattle.vr_worker.proofs.Takings.{err-ok, taken-none, taken-then}
use Rattle.vr_worker.proofs.asking.run_request.Goals as goal

pub loop-init : goal.loop-init
loop-init g c = taken-none c.args.volume c.args.line c.args.request.now c.args.last.now
    c.args.turn.now c.requires.may_ask

pub returns-in_err-event : goal.returns-in_err-event
returns-in_err-event g c =
    subst (λ (done : Bool). HasTaken c.args.volume c.args.line c.args.request.now done
    c.args.last.now c.event.new.last c.args.turn.now c.event.new.turn)
    (sym (err-ok c.from_residual.result c.in_err-event.field-0.0 c.from_residual.ensures.1))
    (taken-then c.args.volume c.args.line c.args.request.now false c.args.last.now c.loop.last
    c.event.new.last c.args.turn.now c.loop.turn c.event.new.turn c.loop.invariant
    c.in_err-event.ensures)

pub returns-then-branch : goal.returns-then-branch
returns-then-branch g c =
    taken-then c.args.volume c.args.line c.args.request.now true c.args.last.now c.loop.last
    c.event.new.last c.args.turn.now c.loop.turn c.event.new.turn c.loop.invariant
    (subst (λ (done : Bool). HasTaken c.args.volume c.args.line c.args.request.now done c.loop.last
    c.event.new.last c.loop.turn c.event.new.turn) c.if-branch.true c.in_ok-event.ensures)

pub loop-preserved : goal.loop-preserved
loop-preserved g c =
    taken-then c.args.volume c.args.line c.args.request.now false c.args.last.now c.loop.last
    c.event.new.last c.args.turn.now c.loop.turn c.event.new.turn c.loop.invariant
    (subst (λ (done : Bool). HasTaken c.args.volume c.args.line c.args.request.now done c.loop.last
    c.event.new.last c.loop.turn c.event.new.turn) c.if-branch.false c.in_ok-event.ensures)
