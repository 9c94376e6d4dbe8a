-- What was done is told of the trace that is handed back, whose end alone may have changed.
use Rattle.std.proofs.Common.{◌≡◌, ◌∙◌, ℕ, Bool, List, Option, ap, subst, sym}
use Rattle.vr_types.specs.Faults.{Faults}
use Rattle.vr_types.specs.Seen.{Seen}
use Rattle.vr_history.specs.declared.entry.Entry.{Entry}
use Rattle.vr_job_text.specs.declared.job.Job.{Job}
use Rattle.vr_trace.specs.declared.report.StepReport.{StepReport}
use Rattle.vr_job_ends.specs.declared.job_end.End.{End}
use Rattle.vr_job_ends.specs.declared.job_end.Trace.{Trace}
use Rattle.vr_job.specs.ShelfRun.{IsShelfRun}
use Rattle.vr_job.specs.Done.{HasRun, HasRunOn, IsNothing, IsRunDone, NotBegun, NotRun}

module _ (old new : Trace) (end : End) (same : new ≡ record old { end = end }) where
  nothing-shown : IsNothing old → IsNothing new
  nothing-shown nothing = record {
    job = ap (λ (trace : Trace). trace.job) same ∙ nothing.job;
    reports = ap (λ (trace : Trace). trace.reports) same ∙ nothing.reports;
    histories = ap (λ (trace : Trace). trace.histories) same ∙ nothing.histories;
  }

  module _ {D : Type 0} (tells : Bool) (seen : D → Seen) (faults : D → Faults) where
    run-on-shown : (job : Job) (lines : Bool) (begun left : List D) (by : End)
        → HasRunOn tells seen faults job lines begun left old by
        → HasRunOn tells seen faults job lines begun left new by
    run-on-shown job lines begun left by run = record {
      kept = ap (λ (trace : Trace). trace.job) same ∙ run.kept;
      lines_are = ap (λ (trace : Trace). trace.lines) same ∙ run.lines_are;
      run = subst (λ (reports : List StepReport).
          IsShelfRun tells seen faults job.steps by reports new.histories begun left)
          (sym (ap (λ (trace : Trace). trace.reports) same))
          (subst (λ (histories : List (List Entry)).
          IsShelfRun tells seen faults job.steps by old.reports histories begun left)
          (sym (ap (λ (trace : Trace). trace.histories) same)) run.run);
    }

    pub run-shown : (in_memory lines : Bool) (left left' : Option (List ℕ)) (fails fails' : ℕ)
        (shelf shelf' : List D) (by : End)
        → IsRunDone tells seen faults in_memory lines left left' fails fails' shelf shelf' old by
        → IsRunDone tells seen faults in_memory lines left left' fails fails' shelf shelf' new by
    run-shown in_memory lines left left' fails fails' shelf shelf' by
        (NotBegun line end_is nothing not_begun same_left same_fails) =
        NotBegun line end_is (nothing-shown nothing) not_begun same_left same_fails
    run-shown in_memory lines left left' fails fails' shelf shelf' by
        (NotRun line end_is nothing begun ends) =
        NotRun line end_is (nothing-shown nothing) begun ends
    run-shown in_memory lines left left' fails fails' shelf shelf' by
        (HasRun job begun has_begun read run) =
        HasRun job begun has_begun read (run-on-shown job lines begun shelf' by run)
