use Rattle.std.proofs.Common.{◌+◌, List, drop, rules, subst, sym, take}
use Rattle.std.proofs.lemmas.List.{take_all}
use Rattle.vr_job_text.specs.Job.{deck_steps}
use Rattle.vr_job_text.specs.Numbers.{AreNumbered}
use Rattle.vr_job_text.specs.declared.job.JobStep.{JobStep}
use Rattle.vr_trace.specs.declared.report.StepReport.{StepReport}
use Rattle.vr_worker.specs.Reports.{HaveRunSteps}
use Rattle.vr_worker.proofs.JobRuns.{HasEnded, HaveCome, come-none, come-then, ended-failed}
use Rattle.vr_worker.proofs.JobRuns.{ended-whole, err-vacuous, failed-run, may-run, none-added}
use Rattle.vr_worker.proofs.JobSteps.{job-more, job-split}
use Rattle.vr_worker.proofs.steps.run_steps.Goals as goal

pub loop-step-init : goal.loop-step-init
loop-step-init g c =
    let V = g.V.Served in
    come-none V.number g.V.ShownVolume.shown g.V.OwnedVolume.geometry g.V.OwnedVolume.answers
    V.entries V.follows V.stays V.goes_on c.args.volumes.now.items c.args.reports.now
    c.requires.none c.requires.placed c.requires.begins

pub run_any-requires-clause-fresh : goal.run_any-requires-clause-fresh
run_any-requires-clause-fresh g c κs within =
    let V = g.V.Served in
    let job = c.args.steps.now in
    let i = c.loop-step.step-index in
    let step = c.step-item.result in
    may-run V.number g.V.ShownVolume.shown g.V.OwnedVolume.geometry g.V.OwnedVolume.answers
    V.entries V.follows V.stays V.goes_on c.args.volumes.now.items (take i job)
    c.loop-step.volumes.items c.loop-step.reports c.loop-step.invariant step (drop (i + 1) job)
    (subst (λ (them : List JobStep). AreNumbered (deck_steps them))
    (job-split job i step c.loop-step-test.true c.step-item.is) c.requires.numbered)

pub returns-in_err-run_any : goal.returns-in_err-run_any
returns-in_err-run_any g c =
    let V = g.V.Served in
    let own = g.V.OwnedVolume in
    let shown = g.V.ShownVolume.shown in
    let first = c.args.volumes.now.items in
    let mid = c.loop-step.volumes.items in
    let now = c.run_any.new.volumes.items in
    let job = c.args.steps.now in
    let i = c.loop-step.step-index in
    let step = c.step-item.result in
    let said = c.in_err-run_any.ensures in
    let given = c.from_residual.result in
    let fails = err-vacuous given c.in_err-run_any.field-0.0 c.from_residual.ensures.1 in
    let ended : HasEnded shown own.geometry own.answers V.entries V.follows job given first now
    c.loop-step.reports =
    subst (λ (them : List JobStep). HasEnded shown own.geometry own.answers V.entries V.follows
    them given first now c.loop-step.reports)
    (sym (job-split job i step c.loop-step-test.true c.step-item.is))
    (ended-failed V.number shown own.geometry own.answers V.entries V.follows V.stays V.goes_on
    first (take i job) mid c.loop-step.reports c.loop-step.invariant step now given
    (failed-run shown V.entries V.follows step mid now c.run_any.result given fails
    c.run_any.ensures.left) (drop (i + 1) job) fails) in
    record {
      placed = c.run_any.ensures.placed;
      since = ended.since;
      in_steps = ended.in_steps;
      gapless = ended.gapless;
      done = subst (λ (reports : List StepReport). HaveRunSteps shown own.geometry own.answers
          V.entries V.follows job given reports first now)
          (sym (none-added shown own.geometry own.answers mid now c.loop-step.reports
          c.run_any.new.reports step c.in_err-run_any.field-0.0 said.reported)) ended.done;
      stamps = search rules;
    }

pub loop-step-preserved : goal.loop-step-preserved
loop-step-preserved g c =
    let V = g.V.Served in
    let own = g.V.OwnedVolume in
    let shown = g.V.ShownVolume.shown in
    let first = c.args.volumes.now.items in
    let job = c.args.steps.now in
    let i = c.loop-step.step-index in
    let step = c.step-item.result in
    let now = c.run_any.new.volumes.items in
    let said = c.in_ok-run_any.ensures in
    subst (λ (them : List JobStep). HaveCome V.number shown own.geometry own.answers V.entries
    V.follows them first now c.run_any.new.reports)
    (sym (job-more job i step c.loop-step-test.true c.step-item.is))
    (come-then V.number shown own.geometry own.answers V.entries V.follows V.stays V.goes_on first
    (take i job) c.loop-step.volumes.items c.loop-step.reports c.loop-step.invariant step now
    c.run_any.new.reports said.left said.placed said.reported)

pub returns : goal.returns
returns g c =
    let V = g.V.Served in
    let own = g.V.OwnedVolume in
    let shown = g.V.ShownVolume.shown in
    let first = c.args.volumes.now.items in
    let now = c.loop-step.volumes.items in
    let job = c.args.steps.now in
    let i = c.loop-step.step-index in
    let ended = subst (λ (them : List JobStep). HasEnded shown own.geometry own.answers V.entries
    V.follows them _ first now c.loop-step.reports)
    (take_all i job c.loop-step-test.false)
    (ended-whole V.number shown own.geometry own.answers V.entries V.follows V.stays V.goes_on first
    (take i job) now c.loop-step.reports c.loop-step.invariant) in
    record {
      placed = c.loop-step.invariant.placed;
      since = ended.since;
      in_steps = ended.in_steps;
      gapless = ended.gapless;
      done = ended.done;
      stamps = search rules;
    }
