-- What a COMMIT and a BACKOUT enter: the request, done, with which its unit ends; or the fault of a
-- write. And when they may be entered.
use Rattle.std.specs.Prelude.{◌≡◌, ◌⊎◌, ℕ, false, true, ◌==◌, None}
use Rattle.vr_types.specs.declared.reply.Reply.TheVariants.{Done}
use Rattle.vr_types.specs.declared.request.Request.{Request}
use Rattle.vr_types.specs.declared.request.Request.TheVariants.{Backout, Commit}
use Rattle.vr_types.specs.declared.unit.Unit.{Unit as UnitOfRecovery}
use Rattle.vr_log.specs.declared.record.EndKind.{EndKind}
use Rattle.vr_log.specs.declared.record.EndKind.TheVariants.{BackedOut, Committed}
use Rattle.vr_history.specs.declared.entry.What.TheVariants.{Asked}
use Rattle.vr_history.specs.Legal.{is_backout}
use Rattle.vr_history.specs.Replies.{first_of}
use Rattle.vr_history.specs.State.{State}
use Rattle.vr_history.specs.Step.{IsOfUnit, case_of}
use Rattle.vr_answer.specs.Tried.{file_refusals}
use Rattle.vr_record_file.specs.Now.{FileNow, ended, failed, is_undoing, state_now, with_event}

abbrev pub IsEnded : ℕ → UnitOfRecovery → ℕ → Request → FileNow → FileNow → Type 0
IsEnded after unit line request old new =
    new ≡ with_event after unit line (Asked request (Done 0 None None)) (ended unit old)

abbrev pub HasEnded : ℕ → UnitOfRecovery → ℕ → Request → FileNow → FileNow → Type 0
HasEnded after unit line request old new =
    IsEnded after unit line request old new ⊎ (new ≡ failed after unit line request old)

-- the request that the end of a unit answers
abbrev pub IsEndBy : EndKind → Request → Type 0
IsEndBy Committed request = request ≡ Commit
IsEndBy BackedOut request = request ≡ Backout

-- A COMMIT or a BACKOUT may be entered: it is of its deck's current unit, which asks for BACKOUT once
-- it has begun to undo, and nothing in memory refuses it.
pub record IsEnding (opening : State) (file : FileNow) (unit : UnitOfRecovery) (request : Request)
    : Type 0 where
  pub current : IsOfUnit (state_now opening file) unit
  pub of_deck : (unit.deck == 0) ≡ false
  pub goes_on : (is_undoing unit file.entries ≡ false) ⊎ (is_backout request ≡ true)
  pub unrefused : first_of (file_refusals (case_of file.geometry (state_now opening file) unit
      request)) ≡ None
