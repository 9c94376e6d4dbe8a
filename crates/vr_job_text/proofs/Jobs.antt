-- What is laid out is what a text is laid out as, so the steps that are read are those of its job.
use Rattle.std.proofs.Common.{◌≡◌, ◌≤◌, ◌^◌, ℕ, List, length, None, arith, subst}
use Rattle.vr_job_text.specs.declared.fault.JobFault.{JobFault}
use Rattle.vr_job_text.specs.declared.job.JobStep.{JobStep}
use Rattle.vr_job_text.specs.declared.reading.Reading.{Reading}
use Rattle.vr_job_text.specs.Job.{AreSteps, IsJob, FirstBy, CauseOf, deck_steps, order_count}
use Rattle.vr_job_text.specs.Layout.{laid}
use Rattle.vr_job_text.specs.Numbers.{AreNumbered}
use Rattle.vr_job_text.proofs.DeckNumbers.{numbered}
use Rattle.vr_job_text.proofs.OrderCounts.{few_orders}

pub job_is : (text : List ℕ) (reading : Reading) (steps : List JobStep) → reading ≡ laid text
    → reading.fault ≡ None → AreSteps reading.steps steps
    → IsJob text (record { steps = steps })
job_is text reading steps is right are = record {
  right = subst (λ (r : Reading). r.fault ≡ None) is right;
  steps = subst (λ (r : Reading). AreSteps r.steps steps) is are;
}

pub first_is : (text : List ℕ) (reading : Reading) (fault : JobFault) → reading ≡ laid text
    → FirstBy reading.steps reading.fault fault → CauseOf text fault
first_is text reading fault is first =
    subst (λ (r : Reading). FirstBy r.steps r.fault fault) is first

pub few_are : (text : List ℕ) (reading : Reading) (steps : List JobStep) → reading ≡ laid text
    → length text ≤ 2 ^ 26 → AreSteps reading.steps steps
    → order_count (deck_steps steps) ≤ 2 ^ 26
few_are text reading steps is short are =
    let all = subst (λ (r : Reading). AreSteps r.steps steps) is are in
    omega (arith, few_orders text steps all, short)

pub numbers_are : (text : List ℕ) (reading : Reading) (steps : List JobStep)
    → reading ≡ laid text → AreSteps reading.steps steps → AreNumbered (deck_steps steps)
numbers_are text reading steps is are =
    numbered text steps (subst (λ (r : Reading). AreSteps r.steps steps) is are)
