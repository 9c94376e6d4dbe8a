-- The steps of texts, one after another.
use Rattle.std.proofs.Common.{◌++◌, inl, inr, List, [], ◌∷◌, Option, Some, None, IfSome}
use Rattle.std.proofs.Common.{refl, sym, subst}
use Rattle.std.proofs.lemmas.List.{append-nil, append_assoc}
use Rattle.vr_job_text.specs.declared.card.Program.{Program}
use Rattle.vr_job_text.specs.declared.card.Program.TheVariants as programs
use Rattle.vr_job_text.specs.declared.fault.JobFault.{JobFault}
use Rattle.vr_job_text.specs.declared.fault.JobFault.TheVariants.{Text, Memory}
use Rattle.vr_job_text.specs.declared.fault.TextFault.{TextFault}
use Rattle.vr_job_text.specs.declared.job.JobStep.{JobStep}
use Rattle.vr_job_text.specs.declared.reading.Part.{Part}
use Rattle.vr_job_text.specs.declared.reading.StepText.{StepText}
use Rattle.vr_job_text.specs.Job.{IsStep, IsStepFaultOf, StepFaultOf, StepFaultBy, AreSteps}
use Rattle.vr_job_text.specs.Job.{IsFirstOf, FirstBy}

-- The steps so far are those of the texts before the rest, so that what the rest comes to is what all
-- come to.
pub record IsReadTo (whole : List StepText) (last : Option TextFault) (rest : List StepText)
    (steps : List JobStep) : Type 0 where
  pub all : (more : List JobStep) → AreSteps rest more → AreSteps whole (steps ++ more)
  pub first : (fault : TextFault) → IsFirstOf rest last fault → IsFirstOf whole last fault

pub read_start : (whole : List StepText) (last : Option TextFault) → IsReadTo whole last whole []
read_start whole last = record { all = λ more h. h; first = λ fault h. h }

pub read_next : (whole rest : List StepText) (last : Option TextFault) (text : StepText)
    (steps : List JobStep) (step : JobStep) → IsReadTo whole last (text ∷ rest) steps
    → IsStep text step → IsReadTo whole last rest (steps ++ step ∷ [])
read_next whole rest last text steps step h is = record {
  all = λ more are. subst (AreSteps whole) (sym (append_assoc steps (step ∷ []) more))
      (h.all (step ∷ more) (is, are));
  first = λ fault later. h.first fault (inr (step, is, later));
}

pub read_end : (whole : List StepText) (last : Option TextFault) (steps : List JobStep)
    → IsReadTo whole last [] steps → AreSteps whole steps
read_end whole last steps h = subst (AreSteps whole) (append-nil steps) (h.all [] tt)

pub read_last : (whole : List StepText) (last : Option TextFault) (steps : List JobStep)
    → IsReadTo whole last [] steps → IfSome last (IsFirstOf whole last)
read_last whole None steps h = tt
read_last whole (Some fault) steps h = h.first fault refl

fault_of : (program : Program) (parts : List Part) (fault : TextFault)
    → StepFaultOf program parts (Text fault) → IsStepFaultOf program parts fault
fault_of programs.Decks parts fault h = h
fault_of programs.Utilities parts fault h = h

pub read_fault : (whole rest : List StepText) (last : Option TextFault) (text : StepText)
    (steps : List JobStep) (fault : JobFault) → IsReadTo whole last (text ∷ rest) steps
    → StepFaultBy text fault → FirstBy whole last fault
read_fault whole rest last text steps (Text fault) h bad =
    h.first fault (inl (fault_of text.program text.parts fault bad))
read_fault whole rest last text steps Memory h bad = tt
