-- The history of a volume shows whether it has stopped.
use Rattle.std.proofs.Common.{◌≡◌, ⊎_elim, ◌∙◌, ◌||◌, ◌++◌, ℕ, Bool, true, false, List, [], ◌∷◌}
use Rattle.std.proofs.Common.{None, refl, sym, ap}
use Rattle.std.specs.Prelude.{is_some}
use Rattle.std.proofs.lemmas.List.Folds.{list_any-append}
use Rattle.vr_types.specs.Faults.{Faults}
use Rattle.vr_types.specs.declared.fault.DeviceFault.TheVariants.{Write}
use Rattle.vr_types.specs.declared.reply.Reply.TheVariants.{Done as DoneReply}
use Rattle.vr_types.specs.declared.request.Request.{Request}
use Rattle.vr_types.specs.declared.unit.Unit.{Unit as UnitOfRecovery}
use Rattle.vr_history.specs.declared.entry.Entry.{Entry}
use Rattle.vr_history.specs.declared.entry.What.{What}
use Rattle.vr_history.specs.declared.entry.What.TheVariants.{Asked, Claimed, Faulted, Split, Undone}
use Rattle.vr_record_file.specs.Now.{FileNow, asked_failing, ended, entry_next, failed, with_event}
use Rattle.vr_event.specs.Acting.{HasStepped, IsActed, IsAnsweredFor}
use Rattle.vr_event.specs.declared.act.Act.{Act}
use Rattle.vr_event.specs.declared.act.Act.TheVariants.{Again, Done}
use Rattle.vr_job.specs.Faultless.{has_stopped, is_stop}
use Rattle.vr_job.specs.Going.{ShowsStop}

or-false : (b : Bool) → (b || false) ≡ b
or-false true = refl
or-false false = refl

-- an entry more that stops nothing
stop-same : (entries : List Entry) (entry : Entry) → is_stop entry.what ≡ false
    → has_stopped (entries ++ entry ∷ []) ≡ has_stopped entries
stop-same entries entry none =
    list_any-append (λ (one : Entry). is_stop one.what) entries (entry ∷ [])
    ∙ ap (λ (b : Bool). has_stopped entries || (b || false)) none ∙ or-false (has_stopped entries)

-- and one that does
stop-now : (entries : List Entry) (entry : Entry) → is_stop entry.what ≡ true
    → has_stopped (entries ++ entry ∷ []) ≡ true
stop-now entries entry stops =
    list_any-append (λ (one : Entry). is_stop one.what) entries (entry ∷ [])
    ∙ ap (λ (b : Bool). has_stopped entries || (b || false)) stops ∙ or-true (has_stopped entries)
  where
    or-true : (b : Bool) → (b || true) ≡ true
    or-true true = refl
    or-true false = refl

same-file : (old new : FileNow) → new ≡ old → ShowsStop old → ShowsStop new
same-file old new same before = ap (λ (f : FileNow). is_some f.stopped) same ∙ before
    ∙ ap (λ (f : FileNow). has_stopped f.entries) (sym same)

-- one entry more, which stops nothing
one-entered : (after : ℕ) (unit : UnitOfRecovery) (line : ℕ) (what : What) (old mid new : FileNow)
    → new ≡ with_event after unit line what mid → mid.stopped ≡ old.stopped
    → mid.entries ≡ old.entries → is_stop what ≡ false → ShowsStop old → ShowsStop new
one-entered after unit line what old mid new leaves stopped entries none before =
    ap (λ (f : FileNow). is_some f.stopped) leaves ∙ ap is_some stopped ∙ before
    ∙ ap has_stopped (sym entries)
    ∙ sym (stop-same mid.entries (entry_next mid.entries after unit line what) none)
    ∙ ap (λ (f : FileNow). has_stopped f.entries) (sym leaves)

-- a fault, which stops the volume
one-failed : (after : ℕ) (unit : UnitOfRecovery) (line : ℕ) (request : Request) (mid new : FileNow)
    → new ≡ failed after unit line request mid → ShowsStop new
one-failed after unit line request mid new leaves =
    ap (λ (f : FileNow). is_some f.stopped) leaves
    ∙ sym (stop-now asked.entries (entry_next asked.entries 0 unit line (Faulted Write)) refl)
    ∙ ap (λ (f : FileNow). has_stopped f.entries) (sym leaves)
  where
    asked : FileNow
    asked = asked_failing after unit line request mid

stepped : (after : ℕ) (unit : UnitOfRecovery) (line : ℕ) (request : Request) (old new : FileNow)
    → HasStepped after unit line request old new → ShowsStop old → ShowsStop new
stepped after unit line request old new is before = ⊎_elim
    (λ same. same-file old new same before)
    (λ step. ⊎_elim
    (λ split. one-entered after unit line (Split split.0) old old new split.1 refl refl refl before)
    (λ later. ⊎_elim
    (λ claim. one-entered after unit line (Claimed claim.0 claim.1) old old new claim.2 refl refl refl
    before)
    (λ back. one-entered after unit line (Undone back.1 back.2) old old new back.3 refl refl refl
    before)
    later)
    step) is

answered : (before now : Faults) (after : ℕ) (unit : UnitOfRecovery) (line : ℕ) (request : Request)
    (old new : FileNow) → IsAnsweredFor before now after unit line request old new → ShowsStop old
    → ShowsStop new
answered before now after unit line request old new is shows = ⊎_elim
    (λ entered. one-entered after unit line (Asked request entered.entered.reply) old (record old {
      locks = new.locks;
      files = new.files;
      files_room = new.files_room;
    }) new entered.entered.leaves refl refl refl shows)
    (λ further. ⊎_elim
    (λ over. one-entered after unit line (Asked request (DoneReply 0 None None)) old
    (ended unit old) new over.1 refl refl refl shows)
    (λ fails. one-failed after unit line request (record old { locks = new.locks }) new fails.0)
    further) is

pub acted-shows : (before now : Faults) (act : Act) (after : ℕ) (unit : UnitOfRecovery) (line : ℕ)
    (request : Request) (old new : FileNow) → IsActed before now act after unit line request old new
    → ShowsStop old → ShowsStop new
acted-shows before now Done after unit line request old new is =
    answered before now after unit line request old new is.by
acted-shows before now (Again given) after unit line request old new is =
    stepped after unit line request old new is.by.1
