use Rattle.std.proofs.Common.{refl, subst, sym}
use Rattle.vr_types.specs.declared.reply.Refusal.TheVariants.{Memory as NoMemory}
use Rattle.vr_types.specs.declared.reply.Reply.TheVariants.{Refused}
use Rattle.vr_history.specs.Step.{case_of}
use Rattle.vr_record_file.specs.Now.{MayBeAsked, state_now}
use Rattle.vr_event.specs.Volume.{IsHeld, VolumeNow}
use Rattle.vr_store.specs.declared.no.LookNo.TheVariants.{Memory}
use Rattle.vr_event.proofs.Ended.{may-fail}
use Rattle.vr_event.proofs.Entries.{may-asked}
use Rattle.vr_event.specs.Cause.{HasGetCause}
use Rattle.vr_event.proofs.Causes.{cause-calm, cause-entered, entered-refused}
use Rattle.vr_event.proofs.volume.Volume.enter_read.Goals as goal

pub returns-in-Err-clause-held : goal.returns-in-Err-clause-held
returns-in-Err-clause-held g c told opening held asked may =
    let file = c.args.self.now.file in
    let case = case_of file.geometry (state_now opening file) c.args.unit c.args.request in
    let same = sym c.in-Err.ensures.same in
    c.refuse.ensures.held told opening
    (subst (IsHeld g.B.Blocks.seen opening) same held)
    (subst (λ (v : VolumeNow g.row.B.Denot). MayBeAsked opening v.file c.args.unit c.args.request
    (Refused NoMemory)) same (may-asked opening file c.args.unit c.args.request (Refused NoMemory)
    asked (may-fail case asked.read asked.unrefused Memory))) refl

pub returns-in-Ok-clause-cause : goal.returns-in-Ok-clause-cause
returns-in-Ok-clause-cause g c before now cause calm =
    cause-entered (c.in-Ok.ensures.replied before now cause calm)

pub returns-in-Err-clause-cause : goal.returns-in-Err-clause-cause
returns-in-Err-clause-cause g c before now cause calm =
    subst (λ (v : VolumeNow g.row.B.Denot). HasGetCause before now c.args.after c.args.unit
    c.args.line c.args.request v.file c.refuse.new.self.file) c.in-Err.ensures.same
    (cause-entered (entered-refused NoMemory c.refuse.ensures.same
    (cause-calm before now (Refused NoMemory) (cause.calm calm) refl) refl))
