-- What a DEFINE CLUSTER of Access Method Services Commands comes to, and what it leaves of the
-- volumes. Which faults there are is this project's own.
use Rattle.std.specs.Prelude.{◌≡◌, ◌≢◌, ◌⊎◌, ℕ, List, [], length, map, slice_get, slice_set}
use Rattle.std.specs.Prelude.{codes, Option, Some, None}
use Rattle.vr_types.specs.declared.geometry.Geometry.{Geometry}
use Rattle.vr_types.specs.declared.reply.Refusal.TheVariants.{LogFull}
use Rattle.vr_catalog.specs.Define.{new_entry}
use Rattle.vr_catalog.specs.declared.fault.CatFault.TheVariants as faults
use Rattle.vr_catalog.specs.declared.order.Define.{Define}
use Rattle.vr_trace.specs.Commands.{command_lines, done, refused}
use Rattle.vr_trace.specs.Shown.{Shown}
use Rattle.vr_trace.specs.declared.command.Failure.{Failure}
use Rattle.vr_trace.specs.declared.command.Outcome.{Outcome}
use Rattle.vr_ams_define.specs.declared.answer.Defined.{Defined}
use Rattle.vr_ams_define.specs.declared.answer.Defined.TheVariants.{Done, Again, NoArea, NoRoom}
use Rattle.vr_ams_define.specs.declared.answer.Defined.TheVariants.{Held, Full, Fault}
use Rattle.vr_ams_define.specs.Answers.{Answering, HasAnswered}
use Rattle.vr_ams_define.specs.Chosen.{chosen}
use Rattle.vr_ams_define.specs.Failures.{catalog_failure, fault_failure, first_failure}
use Rattle.vr_ams_define.specs.Failures.{held_failure, volume_failure}

-- The outcome by the volume's answer, which is its last: code 0; 8 where no area is free, for the
-- cluster or for its record; 901 where a lock is in the way; 902 where the log is full; 904 and 905
-- where the device failed.
abbrev pub IsOutcome : Defined → Outcome → Type 0
IsOutcome (Done area) outcome = outcome ≡ done []
IsOutcome Again outcome = ⊥
IsOutcome NoArea outcome = outcome ≡ refused (catalog_failure faults.NoArea)
IsOutcome NoRoom outcome = outcome ≡ refused (catalog_failure faults.NoArea)
IsOutcome Held outcome = outcome ≡ refused held_failure
IsOutcome Full outcome = outcome ≡ refused (volume_failure (LogFull 0 0 0))
IsOutcome (Fault fault) outcome = outcome ≡ refused (fault_failure fault)

-- The command is refused by the first cause, and no volume is asked.
pub record IsRefused {V : Type 0} (volumes : List V) (first : Option Failure) (after : List V)
    (outcome : Outcome) : Type 0 where
  pub failure : Failure
  pub first_is : first ≡ Some failure
  pub outcome_is : outcome ≡ refused failure
  pub same : after ≡ volumes

-- There is no cause, and the volume of the number is asked for the entry of the order: the outcome
-- is by its answer, and the other volumes are as they were.
pub record IsAnswered {V : Type 0} (shown : V → Shown) (answers : Answering V) (volumes : List V)
    (first : Option Failure) (number : Option ℕ) (line : ℕ) (order : Define) (after : List V)
    (outcome : Outcome) : Type 0
  where
    pub first_is : first ≡ None
    pub place : ℕ
    pub place_is : number ≡ Some place
    pub old : V
    pub old_is : slice_get volumes place ≡ Some old
    pub new : V
    pub answer : Defined
    pub answered : HasAnswered shown answers line (new_entry (shown old).catalog order) old new
        answer
    pub outcome_is : IsOutcome answer outcome
    pub others : after ≡ slice_set volumes place new

abbrev pub IsDefinedBy : {V : Type 0} → (V → Shown) → Answering V → List V → Option Failure
    → Option ℕ → ℕ → Define → List V → Outcome → Type 0
IsDefinedBy shown answers volumes first number line order after outcome =
    IsRefused volumes first after outcome
    ⊎ IsAnswered shown answers volumes first number line order after outcome

-- A DEFINE of a cluster with this VOLUMES, on a line, over volumes that show this, have these
-- shapes and answer so, leaves these volumes with this outcome.
abbrev pub IsDefined : {V : Type 0} → (V → Shown) → (V → Geometry) → Answering V → List V → ℕ
    → Define → Option (List ℕ) → List V → Outcome → Type 0
IsDefined shown geometry answers volumes line order volume after outcome =
    IsDefinedBy shown answers volumes
    (first_failure (map shown volumes) (map geometry volumes) order volume)
    (chosen (length volumes) volume) line order after outcome

-- Where stamps or memory run out, too, only the volume of the number may be another, and it shows
-- what it showed.
pub record IsLeft {V : Type 0} (shown : V → Shown) (volumes : List V) (number : Option ℕ)
    (after : List V) : Type 0 where
  pub same : map shown after ≡ map shown volumes
  pub others : (place : ℕ) → number ≢ Some place → slice_get after place ≡ slice_get volumes place

-- the detail lines and the line of the command, whose first word is on line `line` of the job
abbrev pub cluster_lines : ℕ → Outcome → List ℕ
cluster_lines line outcome = command_lines line (codes "DEFINE CLUSTER") outcome
