use Rattle.std.proofs.Common.{ap, refl, subst, sym, ◌∙◌}
use Rattle.vr_types.specs.declared.reply.Refusal.{Refusal}
use Rattle.vr_types.specs.declared.reply.Reply.TheVariants.{Refused}
use Rattle.vr_record_file.specs.Now.{FileNow, MayBeAsked}
use Rattle.vr_event.proofs.Faults.{write-is}
use Rattle.vr_event.specs.Cause.{HasReplyCause}
use Rattle.vr_event.proofs.Causes.{cause-entered, cause-failed, entered-refused}
use Rattle.vr_event.proofs.Replied.{not-failed, replied-as}
use Rattle.vr_event.proofs.volume.Volume.enter_refused.Goals as goal

pub returns-then-is_write_fault-clause-held : goal.returns-then-is_write_fault-clause-held
returns-then-is_write_fault-clause-held g c told opening held asked =
    c.fail_write.ensures.held told opening held
    (subst (λ (r : Refusal). MayBeAsked opening c.args.self.now.file c.args.unit c.args.request
    (Refused r)) (write-is c.args.refusal (sym c.is_write_fault.ensures
    ∙ c.if-is_write_fault.true)) asked)

pub returns-else-is_write_fault-clause-held : goal.returns-else-is_write_fault-clause-held
returns-else-is_write_fault-clause-held g c told opening held asked =
    c.refuse.ensures.held told opening held asked
    (sym c.is_write_fault.ensures ∙ c.if-is_write_fault.false)

pub returns-then-is_write_fault-clause-cause : goal.returns-then-is_write_fault-clause-cause
returns-then-is_write_fault-clause-cause g c before now cause =
    cause-failed
    (subst (λ (r : Refusal). HasReplyCause before now (Refused r))
    (write-is c.args.refusal (sym c.is_write_fault.ensures ∙ c.if-is_write_fault.true)) cause)
    c.fail_write.ensures.entered c.requires.going

pub returns-else-is_write_fault-clause-cause : goal.returns-else-is_write_fault-clause-cause
returns-else-is_write_fault-clause-cause g c before now cause =
    cause-entered (entered-refused c.args.refusal c.refuse.ensures.same cause
    (sym c.is_write_fault.ensures ∙ c.if-is_write_fault.false))

pub returns-then-is_write_fault-clause-replied : goal.returns-then-is_write_fault-clause-replied
returns-then-is_write_fault-clause-replied g c entered =
    let old = c.args.self.now.file in
    absurd (not-failed c.args.after c.args.unit c.args.line c.args.request old
    c.fail_write.new.self.file entered old refl c.fail_write.ensures.entered)

pub returns-else-is_write_fault-clause-replied : goal.returns-else-is_write_fault-clause-replied
returns-else-is_write_fault-clause-replied g c entered =
    replied-as c.args.after c.args.unit c.args.line c.args.request c.args.self.now.file
    c.refuse.new.self.file entered (Refused c.args.refusal)
    (ap (λ (f : FileNow). f.entries) c.refuse.ensures.same)
