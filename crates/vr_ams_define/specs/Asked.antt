-- What a command comes to that is one edit of a catalog: ALTER, DEFINE of an alternate index or a
-- path, and each name of a DELETE, of Access Method Services Commands. Which faults there are is
-- this project's own.
use Rattle.std.specs.Prelude.{◌≡◌, ◌⊎◌, ℕ, List, [], slice_get, slice_set, Option, Some, None}
use Rattle.vr_types.specs.declared.reply.Refusal.TheVariants.{LogFull}
use Rattle.vr_catalog.specs.declared.fault.CatFault.TheVariants.{NoArea}
use Rattle.vr_edits.specs.declared.edit.CatalogEdit.{CatalogEdit}
use Rattle.vr_trace.specs.Commands.{done, refused}
use Rattle.vr_trace.specs.Shown.{Shown}
use Rattle.vr_trace.specs.declared.command.Failure.{Failure}
use Rattle.vr_trace.specs.declared.command.Outcome.{Outcome}
use Rattle.vr_ams_define.specs.Answers.{Answering, HasEdited}
use Rattle.vr_ams_define.specs.Failures.{catalog_failure, fault_failure, held_failure}
use Rattle.vr_ams_define.specs.Failures.{volume_failure}
use Rattle.vr_ams_define.specs.declared.answer.Changed.{Changed}
use Rattle.vr_ams_define.specs.declared.answer.Changed.TheVariants.{Again, Done, Fault, Full, Held}
use Rattle.vr_ams_define.specs.declared.answer.Changed.TheVariants.{Live, NoRoom}

-- Why a volume refuses an edit, by its answer, which is its last: 8 where the catalog has no room
-- and no area is free, 901 where a lock or a live unit of recovery is in the way, 902 where the log
-- is full, 904 and 905 where the device failed.
abbrev pub failure_by : Changed → Option Failure
failure_by Done = None
failure_by Again = None
failure_by NoRoom = Some (catalog_failure NoArea)
failure_by Held = Some held_failure
failure_by Live = Some held_failure
failure_by Full = Some (volume_failure (LogFull 0 0 0))
failure_by (Fault fault) = Some (fault_failure fault)

-- the outcome of a command without a detail line, by why it is refused, if it is
abbrev pub outcome_by : Option Failure → Outcome
outcome_by None = done []
outcome_by (Some failure) = refused failure

-- It is refused by its first cause, and no volume is asked.
pub record IsKept {V : Type 0} (first : Option Failure) (old new : List V) (why : Option Failure)
    : Type 0 where
  pub failure : Failure
  pub first_is : first ≡ Some failure
  pub why_is : why ≡ Some failure
  pub same : new ≡ old

-- There is nothing to edit: nothing is asked, and nothing is entered.
pub record IsNothing {V : Type 0} (first : Option Failure) (edit : Option CatalogEdit)
    (old new : List V) (why : Option Failure) : Type 0 where
  pub allowed : first ≡ None
  pub none : edit ≡ None
  pub why_is : why ≡ None
  pub same : new ≡ old

-- The volume of the number was asked for the edit, and the others are as they were.
pub record IsEditAsked {V : Type 0} (shown : V → Shown) (answers : Answering V) (line : ℕ)
    (first : Option Failure) (number : Option ℕ) (edit : Option CatalogEdit) (old new : List V)
    (why : Option Failure) : Type 0
  where
    pub allowed : first ≡ None
    pub place : ℕ
    pub place_is : number ≡ Some place
    pub asked : CatalogEdit
    pub asked_is : edit ≡ Some asked
    pub before : V
    pub before_is : slice_get old place ≡ Some before
    pub after : V
    pub answer : Changed
    pub edited : HasEdited shown answers line asked before after answer
    pub why_is : why ≡ failure_by answer
    pub others : new ≡ slice_set old place after

-- A command on a line, over volumes that show this and answer so, which has this first cause for
-- which it is refused, if there is one, and else is this edit of the volume of the number, leaves
-- these volumes, and this is why it is refused, if it is.
abbrev pub IsEditedBy : {V : Type 0} → (V → Shown) → Answering V → ℕ → Option Failure → Option ℕ
    → Option CatalogEdit → List V → List V → Option Failure → Type 0
IsEditedBy shown answers line first number edit old new why =
    IsKept first old new why
    ⊎ (IsNothing first edit old new why
    ⊎ IsEditAsked shown answers line first number edit old new why)

-- So it does where it has no detail line, with this outcome.
pub record IsEdited {V : Type 0} (shown : V → Shown) (answers : Answering V) (line : ℕ)
    (first : Option Failure) (number : Option ℕ) (edit : Option CatalogEdit) (old new : List V)
    (outcome : Outcome) : Type 0
  where
    pub why : Option Failure
    pub ended : IsEditedBy shown answers line first number edit old new why
    pub outcome_is : outcome ≡ outcome_by why
