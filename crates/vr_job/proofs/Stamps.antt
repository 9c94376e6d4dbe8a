-- That each stamp is taken where none is left out.
use Rattle.std.proofs.Common.{◌≡◌, ◌≤◌, ℕ, zero, suc, List, arith, inl, inr}
use Rattle.std.proofs.lemmas.Bool.{cases_lt}
use Rattle.vr_history.specs.Merged.{Numbered}
use Rattle.vr_history.specs.declared.entry.Entry.{Entry}
use Rattle.vr_job_text.specs.declared.job.JobStep.{JobStep}
use Rattle.vr_trace.specs.Growing.{IsEntered}
use Rattle.vr_worker.specs.Steps.{AreGapless}

-- down from that of an entry
pub stamp-taken : (steps : List JobStep) (histories : List (List Entry)) → AreGapless steps histories
    → (last : ℕ) (this : Numbered) → IsEntered histories this → this.entry.stamp ≡ last
    → (stamp : ℕ) → 1 ≤ stamp → stamp ≤ last
    → (other : Numbered) × IsEntered histories other × (other.entry.stamp ≡ stamp)
stamp-taken steps histories gapless zero this entered at stamp low high =
    absurd (omega (arith, low, high))
stamp-taken steps histories gapless (suc last) this entered at stamp low high = elim
    (cases_lt stamp (suc last)) [
      | inl lesser ↦ elim (gapless this entered) [
        | inl one ↦ absurd (omega (arith, one, at, low, lesser))
        | inr (other, has, before) ↦ stamp-taken steps histories gapless last other has
            (omega (arith, before.next, at)) stamp low (omega (arith, lesser))
      ]
      | inr same ↦ (this, entered, omega (arith, at, same, high))
    ]
