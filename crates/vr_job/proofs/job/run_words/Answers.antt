use Rattle.std.proofs.Common.{◌≡◌, ◌∙◌, Bool, List, ℕ, Some, ap, codes, subst, sym}
use Rattle.std.specs.Prelude.{bytes_eq}
use Rattle.vr_job_ends.specs.Asked.{Format, Run, asked_of}
use Rattle.vr_job_ends.specs.declared.command.Plan.{Plan}
use Rattle.vr_job_ends.proofs.CallerLemmas.{asks_plan}
use Rattle.vr_job.specs.Done.{IsRunDone}
use Rattle.vr_job.proofs.Codes.{done-few, none-few}
use Rattle.vr_job.proofs.job.run_words.Goals as goal

pub format_shelf-requires : goal.format_shelf-requires
format_shelf-requires g c =
    let plan = c.in-Some-Format in
    let asked = Format plan.field-0-0.now plan.count plan.field-0-2 plan.field-0-3 plan.log plan.area in
    (asks_plan c.args.words.now asked (sym plan.ensures
    ∙ ap (λ (made : Plan). Some (asked_of made)) plan.field-0-is)).few

pub returns-in-Some-Run-clause-runs : goal.returns-in-Some-Run-clause-runs
returns-in-Some-Run-clause-runs g c = λ job dir lines asked.
    let B = g.D.BlockDevice in
    let S = g.S.Source in
    let plan = c.in-Some-Run in
    let both : Some (Run plan.field-0-0.now plan.dir.now plan.trace) ≡ Some (Run job dir lines) =
    sym (ap (λ (made : Plan). Some (asked_of made)) plan.field-0-is) ∙ plan.ensures ∙ asked in
    let dirs : plan.dir.now ≡ dir = cc in
    let traces : plan.trace ≡ lines = cc in
    let Done : Bool → Bool → Type 0 = λ in_memory lines. IsRunDone B.tells B.seen B.faults in_memory
    lines (S.left c.args.input.now) (S.left c.run_shelf.new.input) (S.faults c.args.input.now)
    (S.faults c.run_shelf.new.input) c.args.shelf.items c.run_shelf.result.shelf.items
    c.run_shelf.result.trace c.run_shelf.result.trace.end in
    subst (λ (name : List ℕ). Done (bytes_eq name (codes "-")) lines) dirs
    (subst (λ (traced : Bool). Done (bytes_eq plan.dir.now (codes "-")) traced) traces
    (subst (λ (in_memory : Bool). Done in_memory plan.trace) c.eq.ensures c.run_shelf.ensures.done))

pub returns-in-Some-Run-clause-few : goal.returns-in-Some-Run-clause-few
returns-in-Some-Run-clause-few g c =
    let B = g.D.BlockDevice in
    let S = g.S.Source in
    let done = c.run_shelf in
    done-few B.tells B.seen B.faults c.eq.result c.in-Some-Run.trace
    (S.left c.args.input.now) (S.left done.new.input) (S.faults c.args.input.now)
    (S.faults done.new.input) c.args.shelf.items done.result.shelf.items done.result.trace
    done.result.trace.end done.ensures.done

pub returns-in-Some-Format-clause-few : goal.returns-in-Some-Format-clause-few
returns-in-Some-Format-clause-few g c =
    none-few c.format_shelf.result.trace c.format_shelf.ensures.nothing

pub returns-in-None-clause-few : goal.returns-in-None-clause-few
returns-in-None-clause-few g c = none-few c.not_run.result.trace c.not_run.ensures.nothing
