use Rattle.std.proofs.Common.{List, ap, refl, subst, sym, ⊎_elim}
use Rattle.vr_trace.specs.declared.ending.EndLine.TheVariants.{NoMemory}
use Rattle.vr_job.specs.Done.{HasBegun, HasNotBegun, HasRun, NotBegun, NotRun}
use Rattle.vr_job.proofs.done.run_shelf.Goals as goal

pub returns-in-Err : goal.returns-in-Err
returns-in-Err g c =
    let B = g.D.BlockDevice in
    record {
      done = NotBegun c.in-Err.line c.not_run.ensures.end c.not_run.ensures.nothing
          (subst (λ (items : List g.row.D.Denot). HasNotBegun B.tells B.seen B.faults c.args.in_memory
          c.args.shelf.items items c.in-Err.line)
          (ap (λ shelf. shelf.items) (sym c.not_run.ensures.shelf)) c.in-Err.ensures.not_begun)
          refl refl;
    }

pub returns-in-Ok : goal.returns-in-Ok
returns-in-Ok g c =
    let B = g.D.BlockDevice in
    let begun = c.in_default.ensures.begun in
    record {
      done = ⊎_elim (λ none.
          NotRun NoMemory none.0 none.1
          (subst (λ (items : List g.row.D.Denot). HasBegun B.tells B.seen c.args.in_memory
          c.args.shelf.items items) (sym none.2) begun)
          c.in-Ok.ensures.job.steady)
          (λ run. HasRun c.in-Ok.job c.begin.new.shelf.items begun c.in-Ok.ensures.job run)
          c.run_on.ensures;
    }

pub returns-in-Err-read_job : goal.returns-in-Err-read_job
returns-in-Err-read_job g c =
    let B = g.D.BlockDevice in
    let end = c.not_run-in-Err-read_job in
    record {
      done = NotRun c.in-Err-read_job.line end.ensures.end end.ensures.nothing
          (subst (λ (items : List g.row.D.Denot). HasBegun B.tells B.seen c.args.in_memory
          c.args.shelf.items items) (ap (λ shelf. shelf.items) (sym end.ensures.shelf))
          c.in_default.ensures.begun) c.in-Err-read_job.ensures.line;
    }
