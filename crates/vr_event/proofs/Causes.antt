-- Replies that are faults of the device, and what they are entered for.
use Rattle.std.proofs.Common.{arith, ◌≡◌, ◌⊎◌, ◌<◌, ℕ, Bool, false, true, List, None, refl, ap, sym}
use Rattle.std.proofs.Common.{◌∙◌, subst, inl, inr, Err}
use Rattle.std.proofs.lemmas.Option.{none-some}
use Rattle.vr_types.specs.Faults.{Faults}
use Rattle.vr_types.specs.Locks.{Lock}
use Rattle.vr_types.specs.declared.fault.DeviceFault.TheVariants.{Read, Write}
use Rattle.vr_types.specs.declared.reply.Refusal.{Refusal}
use Rattle.vr_types.specs.declared.reply.Refusal.TheVariants.{Memory as NoMemory}
use Rattle.vr_types.specs.declared.reply.Refusal.TheVariants.{ReadFault, WriteFault}
use Rattle.vr_types.specs.declared.reply.Reply.{Reply}
use Rattle.vr_types.specs.declared.reply.Reply.TheVariants as replies
use Rattle.vr_types.specs.declared.request.Request.{Request}
use Rattle.vr_types.specs.declared.unit.Unit.{Unit as UnitOfRecovery}
use Rattle.vr_history.specs.declared.entry.What.TheVariants.{Asked}
use Rattle.vr_history.specs.Case.{Case}
use Rattle.vr_history.specs.Legal.{is_write_fault}
use Rattle.vr_history.specs.Replies.{first_of}
use Rattle.vr_answer.specs.Tried.{file_refusals}
use Rattle.vr_record_file.specs.Now.{FileNow, failed, with_event}
use Rattle.vr_store.specs.Cause.{HasLookCause}
use Rattle.vr_event.specs.Cause.{HasGetCause, HasReplyCause, IsCalmIn, IsEnteredFor, is_fault}
use Rattle.vr_event.specs.Cause.{is_faulted, reply_of}
use Rattle.vr_event.specs.Getting.{IsRead, MayEnd, refusal_of}
use Rattle.vr_event.specs.declared.getting.Outcome.{Outcome}
use Rattle.vr_event.specs.declared.getting.Outcome.TheVariants as outcomes
use Rattle.vr_store.specs.declared.no.LookNo.{LookNo}
use Rattle.vr_store.specs.declared.no.LookNo.TheVariants.{Fault, Memory}
use Rattle.vr_event.proofs.Ended.{may-fail}
use Rattle.vr_event.proofs.Faults.{write-is}

-- what a read comes to, or that memory ran out
pub may-unless : (case : Case) → IsRead case.request
    → first_of (file_refusals case) ≡ None → (outcome result : Outcome)
    → (result ≡ outcome) ⊎ (result ≡ outcomes.Refused NoMemory) → MayEnd case outcome
    → MayEnd case result
may-unless case read none outcome result (inl is) may = subst (MayEnd case) (sym is) may
may-unless case read none outcome result (inr is) may =
    subst (MayEnd case) (sym is) (may-fail case read none Memory)

-- no reply but a fault is that of a write
pub calm-unwritten : (reply : Reply) → is_faulted reply ≡ false → is_write_fault reply ≡ false
calm-unwritten (replies.Done feedback place bytes) calm = refl
calm-unwritten (replies.Refused refusal) calm =
    of (is_write_fault (replies.Refused refusal)) refl
  where
    of : (test : Bool) → is_write_fault (replies.Refused refusal) ≡ test → test ≡ false
    of false is = refl
    of true is =
        let fault : true ≡ false = subst (λ (r : Refusal). is_fault r ≡ false)
        (write-is refusal is) calm in
        absurd cc

-- an outcome whose reply is no fault has none
pub calm-in : (outcome : Outcome) → is_faulted (reply_of outcome) ≡ false → IsCalmIn outcome
calm-in (outcomes.Refused refusal) calm = tt
calm-in (outcomes.Done reply names at held) calm = calm
calm-in (outcomes.Pointed reply at) calm = calm

-- a reply that is no fault of the device needs no count that rose,
pub cause-calm : (before now : Faults) (reply : Reply) → now ≡ before
    → is_faulted reply ≡ false → HasReplyCause before now reply
cause-calm before now reply same calm = record {
  reads = omega (arith, ap (λ (f : Faults). f.reads) same);
  writes = omega (arith, ap (λ (f : Faults). f.writes) same);
  read = λ is. let no : true ≡ false = sym (ap is_faulted is) ∙ calm in absurd cc;
  write = λ is. let no : true ≡ false = sym (ap is_faulted is) ∙ calm in absurd cc;
  calm = λ given. same;
  unwritten = λ given. ap (λ (f : Faults). f.writes) same;
}

pub cause-still : (faults : Faults) (reply : Reply) → is_faulted reply ≡ false
    → HasReplyCause faults faults reply
cause-still faults reply calm = cause-calm faults faults reply refl calm

-- that of a read that failed is one where no write did,
pub cause-read : (before now : Faults) → before.reads < now.reads → now.writes ≡ before.writes
    → HasReplyCause before now (replies.Refused ReadFault)
cause-read before now reads writes = record {
  reads = omega (arith, reads);
  writes = omega (arith, writes);
  read = λ is. reads;
  write = λ is. absurd cc;
  calm = λ given. absurd cc;
  unwritten = λ given. writes;
}

-- and that of a look that failed is the fault that its count rose for
pub cause-look : {T : Type 0} (before now : Faults) (no : LookNo)
    → HasLookCause {T = T} before now (Err no)
    → HasReplyCause before now (replies.Refused (refusal_of no))
cause-look before now (Fault Read) cause =
    cause-read before now (cause.read refl) (cause.unwritten refl)
cause-look before now (Fault Write) cause = record {
  reads = cause.reads;
  writes = cause.writes;
  read = λ is. absurd cc;
  write = λ is. cause.write refl;
  calm = λ given. absurd cc;
  unwritten = λ given. absurd cc;
}
cause-look before now Memory cause =
    cause-calm before now (replies.Refused NoMemory) (cause.memory refl) refl

-- what comes after a call that met no fault
pub cause-later : (before mid now : Faults) (reply : Reply) → mid ≡ before
    → HasReplyCause mid now reply → HasReplyCause before now reply
cause-later before mid now reply same cause =
    subst (λ (f : Faults). HasReplyCause f now reply) same cause

-- ---- what is entered

-- a write that fails, once locks were taken or before, stops a volume that had not stopped
pub stopped-by-failing : (after : ℕ) (unit : UnitOfRecovery) (line : ℕ) (request : Request)
    (old mid new : FileNow) → new ≡ failed after unit line request mid
    → old.stopped ≡ None → new.stopped ≡ old.stopped → ⊥
stopped-by-failing after unit line request old mid new leaves going stays =
    none-some _ (sym going ∙ sym stays ∙ ap (λ (f : FileNow). f.stopped) leaves)

module _ {before now : Faults} {after : ℕ} {unit : UnitOfRecovery} {line : ℕ} where
  pub cause-entered : {request : Request} {old new : FileNow}
      → IsEnteredFor before now after unit line request old new
      → HasGetCause before now after unit line request old new
  cause-entered entered = record {
    reads = entered.cause.reads;
    writes = entered.cause.writes;
    entered = inl entered;
    quiet = λ stays. entered.cause.unwritten entered.going;
  }

  pub cause-failed : {request : Request} {old new : FileNow}
      → HasReplyCause before now (replies.Refused WriteFault)
      → new ≡ failed after unit line request old → old.stopped ≡ None
      → HasGetCause before now after unit line request old new
  cause-failed {request} {old} {new} cause leaves going = record {
    reads = cause.reads;
    writes = cause.writes;
    entered = inr (leaves, cause.write refl);
    quiet = λ stays. absurd (stopped-by-failing after unit line request old old new leaves
        going stays);
  }

  -- with a reply that isn't that of a write that failed
  pub entered-with : {request : Request} {old new : FileNow} (reply : Reply)
      → new ≡ with_event after unit line (Asked request reply)
      (record old { files = new.files; files_room = new.files_room })
      → HasReplyCause before now reply → is_write_fault reply ≡ false
      → IsEnteredFor before now after unit line request old new
  entered-with {request} {old} {new} reply leaves cause going = record {
    entered = record {
      reply = reply;
      leaves = subst (λ (l : List Lock). new ≡ with_event after unit line (Asked request reply)
          (record old { locks = l; files = new.files; files_room = new.files_room }))
          (sym (ap (λ (f : FileNow). f.locks) leaves)) leaves;
    };
    cause = cause;
    going = going;
  }

  pub entered-refused : {request : Request} {old new : FileNow} (refusal : Refusal)
      → new ≡ with_event after unit line (Asked request (replies.Refused refusal))
      (record old { files = new.files; files_room = new.files_room })
      → HasReplyCause before now (replies.Refused refusal)
      → is_write_fault (replies.Refused refusal) ≡ false
      → IsEnteredFor before now after unit line request old new
  entered-refused {request} {old} {new} refusal leaves cause going =
      entered-with (replies.Refused refusal) leaves cause going

  pub entered-read : (shared request : Request) (reply : Reply) (inside old new : FileNow)
      (locks : List Lock) → shared ≡ request → inside ≡ old
      → new ≡ with_event after unit line (Asked shared reply)
      (record inside { locks = locks; files = new.files; files_room = new.files_room })
      → HasReplyCause before now reply → is_faulted reply ≡ false
      → IsEnteredFor before now after unit line request old new
  entered-read shared request reply inside old new locks same of-file leaves cause calm =
      let locked : new.locks ≡ locks = ap (λ (f : FileNow). f.locks) leaves in
      let with_locks : new ≡ with_event after unit line (Asked shared reply)
      (record inside { locks = new.locks; files = new.files; files_room = new.files_room }) =
      subst (λ (l : List Lock). new ≡ with_event after unit line (Asked shared reply)
      (record inside { locks = l; files = new.files; files_room = new.files_room })) (sym locked)
      leaves in
      record {
        entered = record {
          reply = reply;
          leaves = subst (λ (r : Request). new ≡ with_event after unit line (Asked r reply)
              (record old { locks = new.locks; files = new.files; files_room = new.files_room }))
              same
              (subst (λ (o : FileNow). new ≡ with_event after unit line (Asked shared reply)
              (record o { locks = new.locks; files = new.files; files_room = new.files_room }))
              of-file with_locks);
        };
        cause = cause;
        going = calm-unwritten reply calm;
      }
