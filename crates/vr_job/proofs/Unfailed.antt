-- An event that enters no fault is one in which no write or sync failed, and where besides it
-- refuses no request for a read that failed, no read did.
use Rattle.std.proofs.Common.{◌≡◌, ◌∙◌, ⊎_elim, ℕ, Bool, true, false, cond, ◌&&◌, not, List, []}
use Rattle.std.proofs.Common.{◌∷◌, ◌++◌, refl, ap, subst, arith}
use Rattle.std.proofs.lemmas.List.Elements.{All-head, All-tail}
use Rattle.vr_types.specs.Faults.{Faults}
use Rattle.vr_types.specs.declared.fault.DeviceFault.TheVariants.{Write}
use Rattle.vr_types.specs.declared.reply.Reply.{Reply}
use Rattle.vr_types.specs.declared.request.Request.{Request}
use Rattle.vr_types.specs.declared.unit.Unit.{Unit as UnitOfRecovery}
use Rattle.vr_history.specs.Legal.{is_write_fault}
use Rattle.vr_history.specs.declared.entry.Entry.{Entry}
use Rattle.vr_history.specs.declared.entry.What.TheVariants.{Asked}
use Rattle.vr_record_file.specs.Now.{FileNow, failed}
use Rattle.vr_event.specs.Acting.{IsActed, IsAnsweredFor}
use Rattle.vr_event.specs.Cause.{IsEnteredFor, is_faulted}
use Rattle.vr_event.specs.declared.act.Act.{Act}
use Rattle.vr_event.specs.declared.act.Act.TheVariants.{Again, Done}
use Rattle.vr_job.specs.Faultless.{AreFaultless, IsFaulted}
use Rattle.vr_job.specs.ReadFaults.{read_fault, read_faults}
use Rattle.vr_job.proofs.ReadFaults.{failed-two, fault, one-read, refused_write}

-- a reply that is a fault, and not that of a write, is one of a read
read-counted : (request : Request) (reply : Reply) → is_faulted reply ≡ true
    → is_write_fault reply ≡ false → read_fault (Asked request reply) ≡ 1
read-counted request reply faulted going =
    ap (λ (b : Bool). cond (b && not (is_write_fault reply)) 1 0) faulted
    ∙ ap (λ (b : Bool). cond (true && not b) 1 0) going

-- an entry that is no fault of the device
abbrev Unfaulted : Entry → Type 0
Unfaulted entry = ¬ IsFaulted entry.what

module _ (old new : FileNow) (made : List Entry) (entries : new.entries ≡ old.entries ++ made)
    (faultless : AreFaultless made) where
  -- no write failed in it,
  not-failed : (after : ℕ) (unit : UnitOfRecovery) (line : ℕ) (request : Request) (mid : FileNow)
      → new ≡ failed after unit line request mid → mid.entries ≡ old.entries → ⊥
  not-failed after unit line request mid fails same =
      All-head Unfaulted (fault after unit line request mid) []
      (All-tail Unfaulted (refused_write after unit line request mid)
      (fault after unit line request mid ∷ [])
      (subst AreFaultless (failed-two old new made entries after unit line request mid fails same)
      faultless))
      (Write, refl)

  answered-unfailed : (before now : Faults) (after : ℕ) (unit : UnitOfRecovery) (line : ℕ)
      (request : Request) → IsAnsweredFor before now after unit line request old new
      → now.writes ≡ before.writes
  answered-unfailed before now after unit line request is = ⊎_elim
      (λ entered. entered.cause.unwritten entered.going)
      (λ further. ⊎_elim
      (λ over. ap (λ (f : Faults). f.writes) over.2)
      (λ fails. absurd (not-failed after unit line request (record old { locks = new.locks })
      fails.0 refl)) further) is

  -- so the count of writes stayed,
  pub acted-unfailed : (before now : Faults) (act : Act) (after : ℕ) (unit : UnitOfRecovery)
      (line : ℕ) (request : Request) → IsActed before now act after unit line request old new
      → now.writes ≡ before.writes
  acted-unfailed before now Done after unit line request is =
      answered-unfailed before now after unit line request is.by
  acted-unfailed before now (Again given) after unit line request is =
      ap (λ (f : Faults). f.writes) is.by.2

  module _ (none : read_faults made ≡ 0) where
    entered-unread : (before now : Faults) (after : ℕ) (unit : UnitOfRecovery) (line : ℕ)
        (request : Request) → IsEnteredFor before now after unit line request old new
        → now.reads ≡ before.reads
    entered-unread before now after unit line request is =
        by_test (is_faulted is.entered.reply) refl
      where
        by_test : (test : Bool) → is_faulted is.entered.reply ≡ test → now.reads ≡ before.reads
        by_test false calm = ap (λ (f : Faults). f.reads) (is.cause.calm calm)
        by_test true faulted = absurd (omega (
          arith,
          none,
          one-read old new made entries after unit line (Asked request is.entered.reply) (record old {
            locks = new.locks;
            files = new.files;
            files_room = new.files_room;
          }) is.entered.leaves refl,
          read-counted request is.entered.reply faulted is.going,
        ))

    answered-unread : (before now : Faults) (after : ℕ) (unit : UnitOfRecovery) (line : ℕ)
        (request : Request) → IsAnsweredFor before now after unit line request old new
        → now.reads ≡ before.reads
    answered-unread before now after unit line request is = ⊎_elim
        (λ entered. entered-unread before now after unit line request entered)
        (λ further. ⊎_elim
        (λ over. ap (λ (f : Faults). f.reads) over.2)
        (λ fails. absurd (not-failed after unit line request (record old { locks = new.locks })
        fails.0 refl)) further) is

    -- and that of reads
    pub acted-unread : (before now : Faults) (act : Act) (after : ℕ) (unit : UnitOfRecovery)
        (line : ℕ) (request : Request) → IsActed before now act after unit line request old new
        → now.reads ≡ before.reads
    acted-unread before now Done after unit line request is =
        answered-unread before now after unit line request is.by
    acted-unread before now (Again given) after unit line request is =
        ap (λ (f : Faults). f.reads) is.by.2
