use Rattle.std.proofs.Common.{List, ap, inr, subst, sym}
use Rattle.vr_history.specs.declared.entry.Entry.{Entry}
use Rattle.vr_job_ends.specs.declared.job_end.End.{End}
use Rattle.vr_job_text.specs.declared.job.JobStep.{JobStep}
use Rattle.vr_trace.specs.declared.report.StepReport.{StepReport}
use Rattle.vr_job.specs.ShelfRun.{IsShelfRun}
use Rattle.vr_job.proofs.done.run_on.Goals as goal

pub returns-in-Ok : goal.returns-in-Ok
returns-in-Ok g c =
    let D = g.D.BlockDevice in
    let end = c.in-Ok.end in
    let made = c.ran in
    inr (record {
      kept = made.ensures.job;
      lines_are = made.ensures.lines;
      run = subst (λ (by : End). IsShelfRun D.tells D.seen D.faults c.args.job.steps by
          made.result.trace.reports made.result.trace.histories c.args.shelf.items made.result.shelf.items)
          (sym made.ensures.end)
          (subst (λ (reports : List StepReport). IsShelfRun D.tells D.seen D.faults
          c.args.job.steps end.end reports made.result.trace.histories c.args.shelf.items
          made.result.shelf.items) (sym made.ensures.reports)
          (subst (λ (histories : List (List Entry)). IsShelfRun D.tells D.seen D.faults
          c.args.job.steps end.end end.reports histories c.args.shelf.items
          made.result.shelf.items) (sym made.ensures.histories)
          (subst (λ (shelf : List g.row.D.Denot). IsShelfRun D.tells D.seen D.faults
          c.args.job.steps end.end end.reports end.histories c.args.shelf.items shelf)
          (sym (ap (λ shelf. shelf.items) made.ensures.shelf))
          (subst (λ (steps : List JobStep). IsShelfRun D.tells D.seen D.faults steps end.end
          end.reports end.histories c.args.shelf.items end.shelf.items) c.as_slice.ensures
          c.in-Ok.ensures.ran))));
    })
