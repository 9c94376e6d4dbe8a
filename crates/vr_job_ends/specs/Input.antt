-- Reading an input to its end.
use Rattle.std.specs.Prelude.{◌≡◌, ℕ, ◌^◌, ◌<◌, ◌≤◌, ◌++◌, List, length, Option, IfSome}
use Rattle.std.specs.Io.KnownBytes.{IsAtEnd}
use Rattle.vr_outside.specs.Told.{Reads}
use Rattle.vr_job_ends.specs.declared.input.InputFault.{InputFault}
use Rattle.vr_job_ends.specs.declared.input.InputFault.TheVariants.{Read, TooLong, Memory}

-- the text is all that the source had left, and nothing is left of it
pub record IsAll (left left' : Option (List ℕ)) (text : List ℕ) : Type 0 where
  pub told : IfSome left (λ all. all ≡ text)
  pub gone : IsAtEnd left'
  pub short : length text ≤ 2 ^ 26

-- when each fault comes; memory may run out at any time
abbrev pub CauseOf : Option (List ℕ) → ℕ → ℕ → InputFault → Type 0
CauseOf left faults faults' Read = faults < faults'
CauseOf left faults faults' TooLong = IfSome left (λ all. 2 ^ 26 < length all) × (faults' ≡ faults)
CauseOf left faults faults' Memory = faults' ≡ faults

-- the source handed out the bytes that come after those that were there
abbrev pub ReadsAfter : Option (List ℕ) → Option (List ℕ) → List ℕ → List ℕ → Type 0
ReadsAfter left left' before now =
    (bytes : List ℕ) × (now ≡ before ++ bytes) × Reads left left' bytes
