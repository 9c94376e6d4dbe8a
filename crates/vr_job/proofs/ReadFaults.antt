-- Each request that an event refuses since the device failed to read is one for which its count
-- rose.
use Rattle.std.proofs.Common.{◌≡◌, ◌<◌, ◌≤◌, ◌+◌, ◌∙◌, ⊎_elim, ℕ, List, [], ◌∷◌, ◌++◌, None}
use Rattle.std.proofs.Common.{append_assoc, refl, sym, ap, arith}
use Rattle.std.proofs.lemmas.List.{append-nil, append_cancel_left}
use Rattle.vr_types.specs.Faults.{Faults}
use Rattle.vr_types.specs.declared.fault.DeviceFault.TheVariants.{Write}
use Rattle.vr_types.specs.declared.reply.Refusal.TheVariants.{EndOfData, Duplicate, NotFound}
use Rattle.vr_types.specs.declared.reply.Refusal.TheVariants.{NoAddress, NoSpace, NoPosition, NoGet}
use Rattle.vr_types.specs.declared.reply.Refusal.TheVariants.{KeyChanged, LengthChanged, BadLength}
use Rattle.vr_types.specs.declared.reply.Refusal.TheVariants.{BadSlot, Held, LogFull, Stopped}
use Rattle.vr_types.specs.declared.reply.Refusal.TheVariants.{ReadFault, WriteFault, Memory}
use Rattle.vr_types.specs.declared.reply.Refusal.TheVariants.{NotAllowed, NoFile}
use Rattle.vr_types.specs.declared.reply.Reply.{Reply}
use Rattle.vr_types.specs.declared.reply.Reply.TheVariants.{Done as DoneReply, Refused}
use Rattle.vr_types.specs.declared.request.Request.{Request}
use Rattle.vr_types.specs.declared.unit.Unit.{Unit as UnitOfRecovery}
use Rattle.vr_history.specs.declared.entry.Entry.{Entry}
use Rattle.vr_history.specs.declared.entry.What.{What}
use Rattle.vr_history.specs.declared.entry.What.TheVariants.{Asked, Claimed, Faulted, Split, Undone}
use Rattle.vr_record_file.specs.Now.{FileNow, asked_failing, ended, entry_next, failed, with_event}
use Rattle.vr_event.specs.Acting.{HasStepped, IsActed, IsAnsweredFor}
use Rattle.vr_event.specs.declared.act.Act.{Act}
use Rattle.vr_event.specs.declared.act.Act.TheVariants.{Again, Done}
use Rattle.vr_job.specs.ReadFaults.{read_fault, read_faults}

-- by the count before and now: a reply is 904 only where it rose
by-reply : (before now : ℕ) (request : Request) (reply : Reply) → before ≤ now
    → (reply ≡ Refused ReadFault → before < now) → before + read_fault (Asked request reply) ≤ now
by-reply before now request (DoneReply feedback place bytes) same rose = omega (arith, same)
by-reply before now request (Refused ReadFault) same rose = omega (arith, rose refl)
by-reply before now request (Refused WriteFault) same rose = omega (arith, same)
by-reply before now request (Refused EndOfData) same rose = omega (arith, same)
by-reply before now request (Refused (Duplicate part)) same rose = omega (arith, same)
by-reply before now request (Refused NotFound) same rose = omega (arith, same)
by-reply before now request (Refused NoAddress) same rose = omega (arith, same)
by-reply before now request (Refused (NoSpace need free)) same rose = omega (arith, same)
by-reply before now request (Refused NoPosition) same rose = omega (arith, same)
by-reply before now request (Refused NoGet) same rose = omega (arith, same)
by-reply before now request (Refused KeyChanged) same rose = omega (arith, same)
by-reply before now request (Refused LengthChanged) same rose = omega (arith, same)
by-reply before now request (Refused (BadLength length)) same rose = omega (arith, same)
by-reply before now request (Refused BadSlot) same rose = omega (arith, same)
by-reply before now request (Refused (Held holder name mode)) same rose = omega (arith, same)
by-reply before now request (Refused (LogFull used need size)) same rose = omega (arith, same)
by-reply before now request (Refused (Stopped stamp)) same rose = omega (arith, same)
by-reply before now request (Refused Memory) same rose = omega (arith, same)
by-reply before now request (Refused NotAllowed) same rose = omega (arith, same)
by-reply before now request (Refused NoFile) same rose = omega (arith, same)

-- where a write failed, the request, refused,
abbrev pub refused_write : ℕ → UnitOfRecovery → ℕ → Request → FileNow → Entry
refused_write after unit line request file =
    entry_next file.entries after unit line (Asked request (Refused WriteFault))

-- and the fault
abbrev pub fault : ℕ → UnitOfRecovery → ℕ → Request → FileNow → Entry
fault after unit line request file =
    entry_next (asked_failing after unit line request file).entries 0 unit line (Faulted Write)

module _ (old new : FileNow) (made : List Entry)
    (entries : new.entries ≡ old.entries ++ made) where
  -- what was entered is what was made
  counted : (more : List Entry) → new.entries ≡ old.entries ++ more
      → read_faults made ≡ read_faults more
  counted more are = ap read_faults (append_cancel_left old.entries made more (sym entries ∙ are))

  -- nothing was entered
  none-read : new ≡ old → read_faults made ≡ 0
  none-read same = counted [] (ap (λ (f : FileNow). f.entries) same
      ∙ sym (append-nil old.entries))

  -- one entry more
  pub one-read : (after : ℕ) (unit : UnitOfRecovery) (line : ℕ) (what : What) (mid : FileNow)
      → new ≡ with_event after unit line what mid → mid.entries ≡ old.entries
      → read_faults made ≡ read_fault what
  one-read after unit line what mid leaves same =
      omega (arith, counted (entry_next mid.entries after unit line what ∷ []) are)
    where
      are : new.entries ≡ old.entries ++ entry_next mid.entries after unit line what ∷ []
      are = ap (λ (f : FileNow). f.entries) leaves
          ∙ ap (λ (es : List Entry). es ++ entry_next mid.entries after unit line what ∷ []) same

  stepped-read : (after : ℕ) (unit : UnitOfRecovery) (line : ℕ) (request : Request)
      → HasStepped after unit line request old new → read_faults made ≡ 0
  stepped-read after unit line request is = ⊎_elim none-read
      (λ step. ⊎_elim
      (λ split. one-read after unit line (Split split.0) old split.1 refl)
      (λ later. ⊎_elim
      (λ claim. one-read after unit line (Claimed claim.0 claim.1) old claim.2 refl)
      (λ back. one-read after unit line (Undone back.1 back.2) old back.3 refl) later) step) is

  -- a write failed: the request, refused, and the fault
  pub failed-two : (after : ℕ) (unit : UnitOfRecovery) (line : ℕ) (request : Request)
      (mid : FileNow) → new ≡ failed after unit line request mid → mid.entries ≡ old.entries
      → made ≡ refused_write after unit line request mid ∷ fault after unit line request mid ∷ []
  failed-two after unit line request mid fails same = append_cancel_left old.entries made
      (refused_write after unit line request mid ∷ fault after unit line request mid ∷ [])
      (sym entries ∙ ap (λ (f : FileNow). f.entries) fails
      ∙ append_assoc mid.entries (refused_write after unit line request mid ∷ [])
      (fault after unit line request mid ∷ [])
      ∙ ap (λ (them : List Entry). them
      ++ refused_write after unit line request mid ∷ fault after unit line request mid ∷ []) same)

  failed-read : (after : ℕ) (unit : UnitOfRecovery) (line : ℕ) (request : Request) (mid : FileNow)
      → new ≡ failed after unit line request mid → mid.entries ≡ old.entries
      → read_faults made ≡ 0
  failed-read after unit line request mid fails same =
      ap read_faults (failed-two after unit line request mid fails same)

  answered-read : (before now : Faults) (after : ℕ) (unit : UnitOfRecovery) (line : ℕ)
      (request : Request) → before.reads ≤ now.reads
      → IsAnsweredFor before now after unit line request old new
      → before.reads + read_faults made ≤ now.reads
  answered-read before now after unit line request same is = ⊎_elim
      (λ entered. omega (
        arith,
        by-reply before.reads now.reads request entered.entered.reply same entered.cause.read,
        one-read after unit line (Asked request entered.entered.reply) (record old {
          locks = new.locks;
          files = new.files;
          files_room = new.files_room;
        }) entered.entered.leaves refl,
      ))
      (λ further. ⊎_elim
      (λ over. omega (
        arith,
        same,
        one-read after unit line (Asked request (DoneReply 0 None None)) (ended unit old) over.1
            refl,
      ))
      (λ fails. omega (
        arith,
        same,
        failed-read after unit line request (record old { locks = new.locks }) fails.0 refl,
      )) further) is

  pub acted-reads : (before now : Faults) (act : Act) (after : ℕ) (unit : UnitOfRecovery)
      (line : ℕ) (request : Request) → IsActed before now act after unit line request old new
      → before.reads + read_faults made ≤ now.reads
  acted-reads before now Done after unit line request is =
      answered-read before now after unit line request is.reads is.by
  acted-reads before now (Again given) after unit line request is =
      omega (arith, is.reads, stepped-read after unit line request is.by.1)
