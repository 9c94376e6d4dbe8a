-- What an event of a request comes to, by what was entered of it.
use Rattle.std.proofs.Common.{◌≡◌, ◌<◌, ◌≤◌, ℕ, Result, Err, List, None, ap, subst, sym, inl, inr, ⊎_elim, refl}
use Rattle.std.proofs.Common.{◌+◌, ◌-◌, arith}
use Rattle.std.specs.Prelude.{IsErrOf}
use Rattle.vr_types.specs.Faults.{Faults, HasCause, HasWriteCause}
use Rattle.vr_types.specs.declared.fault.DeviceFault.{DeviceFault}
use Rattle.vr_types.specs.declared.fault.DeviceFault.TheVariants.{Read, Write}
use Rattle.vr_types.specs.declared.reply.Refusal.TheVariants.{ReadFault}
use Rattle.vr_types.specs.declared.reply.Reply.TheVariants as replies
use Rattle.vr_types.specs.declared.reply.Reply.TheVariants.{Refused}
use Rattle.vr_types.specs.Locks.{Lock}
use Rattle.vr_types.specs.declared.request.Request.{Request}
use Rattle.vr_types.specs.declared.unit.Unit.{Unit as UnitOfRecovery}
use Rattle.vr_history.specs.declared.entry.What.TheVariants.{Asked}
use Rattle.vr_record_file.specs.Now.{EndsUnit, FileNow, failed, with_event}
use Rattle.vr_event.specs.Acting.{ByAct, HasStepped, IsActed, IsAnsweredFor}
use Rattle.vr_event.specs.declared.act.Act.{Act}
use Rattle.vr_event.specs.Cause.{HasGetCause, IsEnteredFor}
use Rattle.vr_event.specs.EndedFile.{IsEnded}
use Rattle.vr_event.specs.declared.act.Act.TheVariants.{Again, Done}
use Rattle.vr_event.proofs.Causes.{cause-read, cause-still, entered-refused, entered-with}
use Rattle.vr_event.proofs.Causes.{stopped-by-failing}

-- a write fails after locks were taken, or before
failed-locks : (after : ℕ) (unit : UnitOfRecovery) (line : ℕ) (request : Request)
    (old new : FileNow) → new ≡ failed after unit line request old
    → new ≡ failed after unit line request (record old { locks = new.locks })
failed-locks after unit line request old new leaves =
    subst (λ (l : List Lock). new ≡ failed after unit line request (record old { locks = l }))
    (sym (ap (λ (f : FileNow). f.locks) leaves)) leaves

module _ {before now : Faults} {after : ℕ} {unit : UnitOfRecovery} {line : ℕ} {request : Request}
    {old new : FileNow} where
  -- with a reply,
  pub acted-entered : IsEnteredFor before now after unit line request old new
      → IsActed before now Done after unit line request old new
  acted-entered entered = record {
    reads = entered.cause.reads;
    writes = entered.cause.writes;
    by = inl entered;
    quiet = λ stays. entered.cause.unwritten entered.going;
  }

  -- with one, or with the fault of a write,
  pub acted-got : HasGetCause before now after unit line request old new
      → IsActed before now Done after unit line request old new
  acted-got got = record {
    reads = got.reads;
    writes = got.writes;
    by = ⊎_elim (λ entered. inl entered)
        (λ fails. inr (inr (failed-locks after unit line request old new fails.0, fails.1)))
        got.entered;
    quiet = got.quiet;
  }

  -- with that fault, once locks were taken or before,
  pub acted-failed-locked : before.reads ≤ now.reads → before.writes < now.writes
      → new ≡ failed after unit line request (record old { locks = new.locks })
      → old.stopped ≡ None → IsActed before now Done after unit line request old new
  acted-failed-locked reads writes leaves going = record {
    reads = reads;
    writes = omega arith;
    by = inr (inr (leaves, writes));
    quiet = λ stays. absurd (stopped-by-failing after unit line request old
        (record old { locks = new.locks }) new leaves going stays);
  }

  pub acted-failed : before.reads ≤ now.reads → before.writes < now.writes
      → new ≡ failed after unit line request old → old.stopped ≡ None
      → IsActed before now Done after unit line request old new
  acted-failed reads writes leaves going = acted-failed-locked reads writes
      (failed-locks after unit line request old new leaves) going

  -- refused for a read that failed,
  pub acted-read : before.reads < now.reads → now.writes ≡ before.writes
      → new ≡ with_event after unit line (Asked request (Refused ReadFault))
      (record old { files = new.files; files_room = new.files_room })
      → IsActed before now Done after unit line request old new
  acted-read reads writes leaves =
      acted-entered (entered-refused ReadFault leaves (cause-read before now reads writes) refl)

  -- as the end of its unit,
  pub acted-ended : now ≡ before → EndsUnit request → IsEnded after unit line request old new
      → IsActed before now Done after unit line request old new
  acted-ended same ends leaves = record {
    reads = omega (arith, ap (λ (f : Faults). f.reads) same);
    writes = omega (arith, ap (λ (f : Faults). f.writes) same);
    by = inr (inl (ends, leaves, same));
    quiet = λ stays. ap (λ (f : Faults). f.writes) same;
  }

  -- or a step of it was done.
  pub acted-again : now ≡ before → HasStepped after unit line request old new
      → IsActed before now (Again request) after unit line request old new
  acted-again same stepped = record {
    reads = omega (arith, ap (λ (f : Faults). f.reads) same);
    writes = omega (arith, ap (λ (f : Faults). f.writes) same);
    by = (refl, stepped, same);
    quiet = λ stays. ap (λ (f : Faults). f.writes) same;
  }

-- an ENDREQ that is done is entered with its reply
pub entered-done : (after : ℕ) (unit : UnitOfRecovery) (line : ℕ) (request : Request)
    (old new : FileNow) (faults : Faults)
    → new ≡ with_event after unit line (Asked request (replies.Done 0 None None))
    (record old { files = new.files; files_room = new.files_room })
    → IsEnteredFor faults faults after unit line request old new
entered-done after unit line request old new faults leaves =
    entered-with (replies.Done 0 None None) leaves
    (cause-still faults (replies.Done 0 None None) refl) refl

-- ---- faults

-- the fault of a call that reads nothing is one of a write
pub write-counted : {T : Type 0} (before now : Faults) (result : Result T DeviceFault)
    (fault : DeviceFault) → result ≡ Err fault → HasWriteCause before now result
    → before.writes < now.writes
write-counted before now result Write is cause =
    cause.cause.write (subst (λ (r : Result _ DeviceFault). IsErrOf r Write) (sym is) refl)
write-counted before now result Read is cause = absurd (cause.only_write is)

pub write-failed : {T : Type 0} (before now : Faults) (result : Result T DeviceFault)
    → result ≡ Err Write → HasCause before now result → before.writes < now.writes
write-failed before now result is cause =
    cause.write (subst (λ (r : Result _ DeviceFault). IsErrOf r Write) (sym is) refl)

pub read-failed : {T : Type 0} (before now : Faults) (result : Result T DeviceFault)
    → result ≡ Err Read → HasCause before now result → before.reads < now.reads
read-failed before now result is cause =
    cause.read (subst (λ (r : Result _ DeviceFault). IsErrOf r Read) (sym is) refl)

-- and where it is of a read, no write failed
pub read-alone : {T : Type 0} (before now : Faults) (result : Result T DeviceFault)
    → result ≡ Err Read → HasCause before now result → now.writes ≡ before.writes
read-alone before now result is cause =
    cause.unwritten (subst (λ (r : Result _ DeviceFault). IsErrOf r Read) (sym is) refl)

-- ---- room

-- An event enters two entries at most.
pub acted_room : (before now : Faults) (act : Act) (after : ℕ) (unit : UnitOfRecovery) (line : ℕ)
    (request : Request) (old new : FileNow)
    → IsActed before now act after unit line request old new → old.room ≤ new.room + 2
acted_room before now act after unit line request old new acted =
    by_act act acted.by
  where
    by_one : new.room ≡ old.room - 1 → old.room ≤ new.room + 2
    by_one is = omega (arith, is)

    by_done : IsAnsweredFor before now after unit line request old new → old.room ≤ new.room + 2
    by_done (inl entered) = by_one (ap (λ (f : FileNow). f.room) entered.entered.leaves)
    by_done (inr (inl ended)) = by_one (ap (λ (f : FileNow). f.room) ended.1)
    by_done (inr (inr fails)) =
        let is : new.room ≡ old.room - 1 - 1 = ap (λ (f : FileNow). f.room) fails.0 in
        omega (arith, is)

    by_step : HasStepped after unit line request old new → old.room ≤ new.room + 2
    by_step (inl same) =
        let is : new.room ≡ old.room = ap (λ (f : FileNow). f.room) same in omega (arith, is)
    by_step (inr (inl split)) = by_one (ap (λ (f : FileNow). f.room) split.1)
    by_step (inr (inr (inl claimed))) = by_one (ap (λ (f : FileNow). f.room) claimed.2)
    by_step (inr (inr (inr undone))) = by_one (ap (λ (f : FileNow). f.room) undone.3)

    by_act : (act : Act) → ByAct act before now after unit line request old new
        → old.room ≤ new.room + 2
    by_act Done by = by_done by
    by_act (Again given) by = by_step by.1
