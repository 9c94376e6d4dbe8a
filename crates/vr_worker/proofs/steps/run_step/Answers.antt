use Rattle.std.proofs.Common.{List, Vec, subst, sym}
use Rattle.std.specs.Global.{Global}
use Rattle.vr_job_text.specs.declared.job.JobStep.TheVariants.{Decks}
use Rattle.vr_trace.specs.Growing.{ComeLater, ComeNext}
use Rattle.vr_trace.specs.declared.no.RunNo.TheVariants.{Memory}
use Rattle.vr_worker.specs.Asks.{catalogs_of}
use Rattle.vr_worker.specs.Decks.{AreNew, AreSince, numbers_of}
use Rattle.vr_worker.specs.Runs.{AreRuns}
use Rattle.vr_worker.proofs.DeckRuns.{decks-left, none-left}
use Rattle.vr_worker.proofs.JobRuns.{err-vacuous}
use Rattle.vr_worker.proofs.RunLists.{runs-new}
use Rattle.vr_worker.proofs.steps.run_step.Goals as goal

pub run_decks-end-requires-clause-decks : goal.run_decks-end-requires-clause-decks
run_decks-end-requires-clause-decks g c κs within =
    let runs = c.in_ok-runs.runs.items in
    subst (λ (them : Vec g.row.V.Denot Global). AreNew g.V.Served.entries runs them.items)
    (sym c.replace-taken.ensures.value)
    (runs-new (catalogs_of g.V.ShownVolume.shown c.as_slice.result.now) c.args.step.now.decks runs
    c.in_ok-runs.ensures g.V.Served.entries c.args.volumes.now.items c.requires.fresh)

pub returns-in_err-runs-clause-left : goal.returns-in_err-runs-clause-left
returns-in_err-runs-clause-left g c =
    none-left g.V.ShownVolume.shown g.V.Served.entries g.V.Served.follows g.V.Served.stays
    (Decks c.args.step.now) c.args.volumes.now.items c.from_residual.result
    (err-vacuous c.from_residual.result Memory c.from_residual.ensures.1)

pub returns-clause-left : goal.returns-clause-left
returns-clause-left g c =
    let V = g.V.Served in
    let runs = c.in_ok-runs.runs.items in
    let end = c.run_decks-end.result in
    decks-left g.V.ShownVolume.shown V.entries V.follows c.args.step.now
    c.args.volumes.now.items end.volumes.items runs
    (subst (λ (them : List g.row.V.Denot).
    AreRuns (catalogs_of g.V.ShownVolume.shown them) c.args.step.now.decks runs)
    c.as_slice.ensures.value c.in_ok-runs.ensures) c.requires.fresh
    (subst (λ (them : Vec g.row.V.Denot Global).
    AreSince V.entries V.follows (numbers_of runs) them.items end.volumes.items)
    c.replace-taken.ensures.value c.run_decks-end.ensures.since) end.result
    c.run_decks-end.ensures.asked
    (subst (λ (them : Vec g.row.V.Denot Global). ComeLater V.entries them.items end.volumes.items)
    c.replace-taken.ensures.value c.run_decks-end.ensures.later)
    (subst (λ (them : Vec g.row.V.Denot Global). ComeNext V.entries them.items end.volumes.items)
    c.replace-taken.ensures.value c.run_decks-end.ensures.next)
