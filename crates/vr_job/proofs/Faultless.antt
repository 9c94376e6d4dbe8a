-- Where no write failed, an event neither stops its volume nor enters a fault.
use Rattle.std.proofs.Common.{◌≡◌, ⊎_elim, ◌∙◌, ℕ, List, [], None, refl, sym, ap, subst, arith}
use Rattle.std.proofs.lemmas.List.Elements.{All-nil, All-push}
use Rattle.vr_types.specs.Faults.{Faults}
use Rattle.vr_types.specs.declared.reply.Reply.{Reply}
use Rattle.vr_types.specs.declared.reply.Reply.TheVariants.{Done as DoneReply}
use Rattle.vr_types.specs.declared.request.Request.{Request}
use Rattle.vr_types.specs.declared.unit.AreaNo.{AreaNo}
use Rattle.vr_types.specs.declared.unit.PartNo.{PartNo}
use Rattle.vr_types.specs.declared.unit.Unit.{Unit as UnitOfRecovery}
use Rattle.vr_history.specs.declared.entry.Entry.{Entry}
use Rattle.vr_history.specs.declared.entry.What.{What}
use Rattle.vr_history.specs.declared.entry.What.TheVariants.{Asked, Claimed, Faulted, Split, Undone}
use Rattle.vr_types.specs.declared.fault.DeviceFault.{DeviceFault}
use Rattle.vr_record_file.specs.Now.{FileNow, ended, entry_next, with_event}
use Rattle.vr_event.specs.Acting.{HasStepped, IsActed, IsAnsweredFor}
use Rattle.vr_event.specs.declared.act.Act.{Act}
use Rattle.vr_event.specs.declared.act.Act.TheVariants.{Again, Done}
use Rattle.vr_job.specs.Faultless.{AreFaultless, IsFaulted}

pub record NoFault (old new : FileNow) : Type 0 where
  pub stopped : new.stopped ≡ old.stopped
  pub faultless : AreFaultless old.entries → AreFaultless new.entries

asked-none : (request : Request) (reply : Reply) → ¬ IsFaulted (Asked request reply)
asked-none request reply is = differ is.0 is.1
  where
    differ : (fault : DeviceFault) → Asked request reply ≡ Faulted fault → ⊥
    differ fault same = cc

split-none : (part : PartNo) → ¬ IsFaulted (Split part)
split-none part is = differ is.0 is.1
  where
    differ : (fault : DeviceFault) → Split part ≡ Faulted fault → ⊥
    differ fault same = cc

claimed-none : (part : PartNo) (area : AreaNo) → ¬ IsFaulted (Claimed part area)
claimed-none part area is = differ is.0 is.1
  where
    differ : (fault : DeviceFault) → Claimed part area ≡ Faulted fault → ⊥
    differ fault same = cc

undone-none : (part : PartNo) (place : List ℕ) → ¬ IsFaulted (Undone part place)
undone-none part place is = differ is.0 is.1
  where
    differ : (fault : DeviceFault) → Undone part place ≡ Faulted fault → ⊥
    differ fault same = cc

-- nothing was entered
same-file : (old new : FileNow) → new ≡ old → NoFault old new
same-file old new same = record {
  stopped = ap (λ (f : FileNow). f.stopped) same;
  faultless = λ before. subst AreFaultless (sym (ap (λ (f : FileNow). f.entries) same)) before;
}

-- one entry more, which is no fault
one-entered : (after : ℕ) (unit : UnitOfRecovery) (line : ℕ) (what : What) (old mid new : FileNow)
    → new ≡ with_event after unit line what mid → mid.stopped ≡ old.stopped
    → mid.entries ≡ old.entries → ¬ IsFaulted what → NoFault old new
one-entered after unit line what old mid new leaves stopped entries none = record {
  stopped = ap (λ (f : FileNow). f.stopped) leaves ∙ stopped;
  faultless = λ before.
      subst AreFaultless (sym (ap (λ (f : FileNow). f.entries) leaves))
      (All-push (λ (entry : Entry). ¬ IsFaulted entry.what) mid.entries
      (entry_next mid.entries after unit line what) (subst AreFaultless (sym entries) before) none);
}

stepped : (after : ℕ) (unit : UnitOfRecovery) (line : ℕ) (request : Request) (old new : FileNow)
    → HasStepped after unit line request old new → NoFault old new
stepped after unit line request old new is = ⊎_elim
    (λ same. same-file old new same)
    (λ step. ⊎_elim
    (λ split. one-entered after unit line (Split split.0) old old new split.1 refl refl
    (split-none split.0))
    (λ later. ⊎_elim
    (λ claim. one-entered after unit line (Claimed claim.0 claim.1) old old new claim.2 refl refl
    (claimed-none claim.0 claim.1))
    (λ back. one-entered after unit line (Undone back.1 back.2) old old new back.3 refl refl
    (undone-none back.1 back.2))
    later)
    step) is

answered : (before now : Faults) (after : ℕ) (unit : UnitOfRecovery) (line : ℕ) (request : Request)
    (old new : FileNow) → now.writes ≡ before.writes
    → IsAnsweredFor before now after unit line request old new → NoFault old new
answered before now after unit line request old new same is = ⊎_elim
    (λ entered. one-entered after unit line (Asked request entered.entered.reply) old (record old {
      locks = new.locks;
      files = new.files;
      files_room = new.files_room;
    }) new entered.entered.leaves refl refl (asked-none request entered.entered.reply))
    (λ further. ⊎_elim
    (λ over. one-entered after unit line (Asked request (DoneReply 0 None None)) old
    (ended unit old) new over.1 refl refl (asked-none request (DoneReply 0 None None)))
    (λ fails. absurd (omega (arith, fails.1, same)))
    further) is

pub acted-faultless : (before now : Faults) (act : Act) (after : ℕ) (unit : UnitOfRecovery)
    (line : ℕ) (request : Request) (old new : FileNow) → now.writes ≡ before.writes
    → IsActed before now act after unit line request old new → NoFault old new
acted-faultless before now Done after unit line request old new same is =
    answered before now after unit line request old new same is.by
acted-faultless before now (Again given) after unit line request old new same is =
    stepped after unit line request old new is.by.1

-- a history without entries
pub faultless-none : (entries : List Entry) → entries ≡ [] → AreFaultless entries
faultless-none entries none =
    subst AreFaultless (sym none) (All-nil (λ (entry : Entry). ¬ IsFaulted entry.what))
