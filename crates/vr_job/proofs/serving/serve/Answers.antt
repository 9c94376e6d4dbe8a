use Rattle.std.proofs.Common.{Bool, inr, subst, sym}
use Rattle.vr_store.proofs.CallerLemmas.{on-err}
use Rattle.vr_worker.specs.Asked.{HasEntered}
use Rattle.vr_job.specs.Going.{went-then}
use Rattle.vr_job.proofs.Entering.{err-undone, none-entered}
use Rattle.vr_job.proofs.GoingOn.{nearer-then}
use Rattle.vr_job.proofs.serving.serve.Goals as goal

pub returns-in_err-make_ready-clause-entered : goal.returns-in_err-make_ready-clause-entered
returns-in_err-make_ready-clause-entered g c =
    let old = c.args.volume.now in
    let new = c.make_ready.new.volume in
    subst (λ (done : Bool). HasEntered old.number c.args.deck c.args.line c.args.request.now
    c.args.after done old.file.entries new.file.entries)
    (sym (err-undone c.from_residual.result _ c.from_residual.ensures.1))
    (none-entered old.number c.args.deck c.args.line c.args.request.now c.args.after
    old.file.entries new.file.entries c.make_ready.ensures.stays.entries c.requires.may_ask)

pub returns-in_err-shared-clause-entered : goal.returns-in_err-shared-clause-entered
returns-in_err-shared-clause-entered g c =
    let old = c.args.volume.now in
    let new = c.make_ready.new.volume in
    subst (λ (done : Bool). HasEntered old.number c.args.deck c.args.line c.args.request.now
    c.args.after done old.file.entries new.file.entries)
    (sym (err-undone c.from_residual-in_err-shared.result _
    c.from_residual-in_err-shared.ensures.1))
    (none-entered old.number c.args.deck c.args.line c.args.request.now c.args.after
    old.file.entries new.file.entries c.make_ready.ensures.stays.entries c.requires.may_ask)

pub returns-in_err-make_ready-clause-failed : goal.returns-in_err-make_ready-clause-failed
returns-in_err-make_ready-clause-failed g c =
    on-err c.from_residual.result c.make_ready.ensures.stays.entries

pub returns-in_err-shared-clause-failed : goal.returns-in_err-shared-clause-failed
returns-in_err-shared-clause-failed g c =
    on-err c.from_residual-in_err-shared.result c.make_ready.ensures.stays.entries

pub returns-clause-follows : goal.returns-clause-follows
returns-clause-follows g c =
    let B = g.B.Blocks in
    inr (went-then B.tells B.seen B.faults c.args.volume.now c.make_ready.new.volume
    c.event-done.new.volume c.make_ready.ensures.stays.went c.event-done.ensures.went)

pub returns-clause-nearer : goal.returns-clause-nearer
returns-clause-nearer g c =
    let B = g.B.Blocks in
    λ not. nearer-then B.tells B.seen B.faults c.args.volume.now c.make_ready.new.volume
    c.event-done.new.volume c.args.deck c.make_ready.ensures.stays (c.event-done.ensures.nearer not)
