-- What a unit of the utilities does with one record of the catalog: when it may, and what that
-- leaves of the state before the unit ends.
use Rattle.std.proofs.Common.{◌≡◌, ℕ, ◌+◌, ◌≤◌, true, false, cond, [], ◌∷◌, ◌++◌, Option}
use Rattle.std.proofs.Common.{Some, None, inl, inr, refl, sym, ap, arith}
use Rattle.std.specs.Option.{option_map}
use Rattle.vr_types.specs.Content.{Standing, item_at}
use Rattle.vr_types.specs.Locks.{first_conflict}
use Rattle.vr_types.specs.LogSpace.{end_length, log_size}
use Rattle.vr_types.specs.declared.geometry.Geometry.{Geometry}
use Rattle.vr_types.specs.declared.reply.Refusal.{Refusal}
use Rattle.vr_types.specs.declared.reply.Refusal.TheVariants.{Stopped, WriteFault}
use Rattle.vr_types.specs.declared.reply.Reply.TheVariants.{Done, Refused}
use Rattle.vr_types.specs.declared.request.FileRef.{FileRef}
use Rattle.vr_types.specs.declared.request.Request.TheVariants.{Commit}
use Rattle.vr_types.specs.declared.unit.Mode.TheVariants.{Exclusive}
use Rattle.vr_types.specs.declared.unit.Unit.{Unit as UnitOfRecovery}
use Rattle.vr_history.specs.Case.{Case}
use Rattle.vr_history.specs.Effects.{drops_held, with_change}
use Rattle.vr_history.specs.Names.{with_lock}
use Rattle.vr_history.specs.RefusedFile.{stopped}
use Rattle.vr_history.specs.Replies.{MayReply, done_by, refused_or}
use Rattle.vr_history.specs.State.{State, is_kept, is_live, is_logged}
use Rattle.vr_history.specs.Step.{case_of}
use Rattle.vr_answer.specs.Scope.{HasNoneBuilt}
use Rattle.vr_record_file.specs.CatalogEdit.{RecordChange, change_made, image_of, logged_of}
use Rattle.vr_record_file.specs.CatalogEdit.{name_of, need_of}
use Rattle.vr_record_file.proofs.CatalogFile.{passed}

-- the bytes of the log that it takes: its before-image, and room for the end of its unit, where
-- that has logged nothing yet
abbrev pub step_need : State → UnitOfRecovery → RecordChange → ℕ
step_need state unit change = need_of change + cond (is_live state unit) 0 end_length

-- The volume goes on, and the unit, by a file on the catalog, comes to a place that it hasn't
-- changed yet; what is said stands there, and neither a lock nor the log is in the way.
pub record MayStep (geometry : Geometry) (state : State) (unit : UnitOfRecovery) (on : FileRef)
    (change : RecordChange) : Type 0 where
  pub going : state.stopped ≡ None
  pub of_utilities : unit.deck ≡ 0
  pub on_catalog : on.base.0 ≡ 0
  pub known : on.known ≡ true
  pub no_path : on.path ≡ None
  pub unbuilt : HasNoneBuilt state
  pub not_logged : is_logged state unit 0 change.place ≡ false
  pub not_kept : is_kept state unit 0 change.place ≡ false
  pub stands : item_at (state.contents 0) change.place ≡ option_map Standing change.old
  pub unlocked : first_conflict state.locks unit Exclusive (name_of change) ≡ None
  pub room : state.used + step_need state unit change ≤ log_size geometry

-- The change is made under its lock, its before-image is kept and logged, and its file holds
-- nothing.
pub record IsStepMade (unit : UnitOfRecovery) (on : FileRef) (change : RecordChange)
    (old new : State) : Type 0 where
  pub contents : new.contents ≡ with_change (change_made change) old.contents
  pub befores : new.befores ≡ old.befores ++ image_of unit change ∷ []
  pub logged : new.logged ≡ old.logged ++ logged_of unit change ∷ []
  pub used : new.used ≡ old.used + step_need old unit change
  pub locks : new.locks ≡ with_lock unit Exclusive (name_of change) old.locks
  pub positions : (deck slot : ℕ) → new.positions deck slot
      ≡ (drops_held unit.deck (Some on) old).positions deck slot
  pub numbers : new.numbers ≡ old.numbers
  pub owned : new.owned ≡ old.owned
  pub stopped : new.stopped ≡ None

pub need_one : (need more : ℕ) → 0 + need + more ≡ need + more
need_one need more = omega arith

-- Nothing is in the way of the end of a unit where the volume goes on: a COMMIT may be answered 0,
-- or a fault of a write meets it.
module _ (geometry : Geometry) (state : State) (unit : UnitOfRecovery)
    (going : state.stopped ≡ None) where
  abbrev committing : Case
  committing = case_of geometry state unit Commit

  no_stop : stopped committing ≡ None
  no_stop = ap (option_map Stopped) going

  pub may_commit : MayReply committing (Done 0 None None)
  may_commit = inl (
    sym (ap (λ (o : Option Refusal). refused_or o (done_by committing Commit))
        (passed (stopped committing) _ no_stop)),
    λ none. tt,
  )

  pub may_fail : MayReply committing (Refused WriteFault)
  may_fail = inr (inr (inr (passed (stopped committing) _ no_stop, inl refl)))
