use Rattle.std.proofs.Common.{List, ap, codes, subst, sym}
use Rattle.std.specs.Prelude.{bytes_eq}
use Rattle.vr_job_ends.specs.declared.job_end.Trace.{Trace}
use Rattle.vr_job.specs.Done.{AreFew, IsRunDone}
use Rattle.vr_job.proofs.Codes.{ran-few}
use Rattle.vr_job.proofs.Shown.{run-shown}
use Rattle.vr_job.proofs.job.run_job.Goals as goal

pub returns-clause-ran : goal.returns-clause-ran
returns-clause-ran g c = ran-few (g.K.Sink.faults c.args.output.now)
    (g.K.Sink.faults c.print_end.new.output) c.print_end.result.trace c.print_end.result.status
    c.print_end.ensures.status
    (subst AreFew (sym (ap (λ (trace : Trace). trace.reports) c.print_end.ensures.trace))
    c.run_words-done.ensures.few)

pub returns-clause-runs : goal.returns-clause-runs
returns-clause-runs g c = λ job dir lines asked.
    let B = g.D.BlockDevice in
    let S = g.S.Source in
    let end = c.run_words-done.result.trace.end in
    let shown = c.print_end.result in
    record {
      end = end;
      shown = c.print_end.ensures.end;
      done = run-shown c.run_words-done.result.trace shown.trace shown.trace.end
          c.print_end.ensures.trace B.tells B.seen B.faults (bytes_eq dir (codes "-")) lines
          (S.left c.args.input.now) (S.left c.run_words-done.new.input)
          (S.faults c.args.input.now) (S.faults c.run_words-done.new.input) c.args.shelf.items
          shown.shelf.items end
          (subst (λ (items : List g.row.D.Denot). IsRunDone B.tells B.seen B.faults
          (bytes_eq dir (codes "-")) lines (S.left c.args.input.now)
          (S.left c.run_words-done.new.input) (S.faults c.args.input.now)
          (S.faults c.run_words-done.new.input) c.args.shelf.items items
          c.run_words-done.result.trace end) (sym c.print_end.ensures.shelf)
          (c.run_words-done.ensures.runs job dir lines asked));
    }
