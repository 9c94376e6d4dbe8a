-- What the steps of a definition say to one another. The rules are this project's own.
use Rattle.std.specs.Prelude.{◌≡◌, ℕ, List, Option, Some, None, Result, Ok, Err}
use Rattle.vr_types.specs.declared.geometry.Geometry.{Geometry}
use Rattle.vr_catalog.specs.Define.{new_entry}
use Rattle.vr_catalog.specs.declared.fault.CatFault.{CatFault}
use Rattle.vr_catalog.specs.declared.fault.CatFault.TheVariants as faults
use Rattle.vr_catalog.specs.declared.order.Define.{Define}
use Rattle.vr_history.specs.declared.entry.Entry.{Entry}
use Rattle.vr_trace.specs.Commands.{refused}
use Rattle.vr_trace.specs.Shown.{Shown}
use Rattle.vr_trace.specs.declared.command.Failure.{Failure}
use Rattle.vr_trace.specs.declared.command.Outcome.{Outcome}
use Rattle.vr_trace.specs.declared.no.RunNo.TheVariants.{Memory}
use Rattle.vr_ams_define.specs.declared.answer.Defined.{Defined}
use Rattle.vr_ams_define.specs.declared.refusal.DefineNo.{DefineNo}
use Rattle.vr_ams_define.specs.declared.refusal.DefineNo.TheVariants.{Refused, Ended}
use Rattle.vr_ams_define.specs.Answers.{Answering, HasAnswered}
use Rattle.vr_ams_define.specs.Failures.{catalog_failure, entry_failure}
use Rattle.vr_ams_define.specs.Grown.{HasEntered}
use Rattle.vr_ams_define.specs.Outcomes.{IsOutcome}

-- by a fault of the catalog, of which one says that memory ran out
abbrev pub no_by : CatFault → DefineNo
no_by faults.Memory = Ended Memory
no_by fault = Refused (catalog_failure fault)

-- A refusal is by the first cause, and no volume was asked; where stamps or memory run out, what is
-- shown is what was.
abbrev pub IsUndone : {V S : Type 0} → (V → S) → Option Failure → V → V → DefineNo → Type 0
IsUndone shown first old new (Refused failure) = (first ≡ Some failure) × (new ≡ old)
IsUndone shown first old new (Ended end) = shown new ≡ shown old

-- The volume is a later state, and has what events of the command on this line entered after this
-- stamp.
pub record IsLater {V : Type 0} (history : V → List Entry) (goes : V → V → Type 0)
    (line after : ℕ) (old new : V) : Type 0 where
  pub is_later : goes old new
  pub entered : HasEntered line after (history old) (history new)

-- The catalog of a volume doesn't refuse the entry, and the volume was asked for it.
pub record IsEntered {V : Type 0} (shown : V → Shown) (geometry : V → Geometry)
    (answers : Answering V) (line : ℕ) (order : Define) (old new : V) (answer : Defined) : Type 0
  where
    pub allowed : entry_failure (geometry old) (shown old).catalog order ≡ None
    pub answered : HasAnswered shown answers line (new_entry (shown old).catalog order) old new
        answer

-- the outcome by what a definition on its volume came to; out of stamps or memory has none
abbrev pub IsEnd : Result Defined DefineNo → Outcome → Type 0
IsEnd (Ok answer) outcome = IsOutcome answer outcome
IsEnd (Err (Refused failure)) outcome = outcome ≡ refused failure
IsEnd (Err (Ended end)) outcome = ⊥
