use Rattle.std.proofs.Common.{subst}
use Rattle.vr_history.specs.Step.{case_of}
use Rattle.vr_record_file.specs.Now.{state_now}
use Rattle.vr_event.specs.Getting.{MayEnd}
use Rattle.vr_event.specs.Cause.{HasOutcomeCause}
use Rattle.vr_types.specs.declared.reply.Reply.TheVariants.{Refused}
use Rattle.vr_event.proofs.Causes.{cause-entered}
use Rattle.vr_event.proofs.Entries.{may-asked}
use Rattle.vr_event.proofs.volume.Volume.enter_outcome.Goals as goal

pub returns-in-Refused-clause-held : goal.returns-in-Refused-clause-held
returns-in-Refused-clause-held g c told opening held asked may =
    let file = c.args.self.now.file in
    c.enter_refused.ensures.held told opening held
    (may-asked opening file c.args.unit c.args.request (Refused c.in-Refused.refusal) asked
    (subst (MayEnd (case_of file.geometry (state_now opening file) c.args.unit c.args.request))
    c.in-Refused.is may))

pub returns-in-Pointed-clause-held : goal.returns-in-Pointed-clause-held
returns-in-Pointed-clause-held g c told opening held asked may =
    let file = c.args.self.now.file in
    c.enter_point.ensures.held told opening held asked
    (subst (MayEnd (case_of file.geometry (state_now opening file) c.args.unit c.args.request))
    c.in-Pointed.is may)

pub returns-in-Done-clause-held : goal.returns-in-Done-clause-held
returns-in-Done-clause-held g c told opening held asked may =
    let file = c.args.self.now.file in
    c.enter_read.ensures.held told opening held asked
    (subst (MayEnd (case_of file.geometry (state_now opening file) c.args.unit c.args.request))
    c.in-Done.is may)

pub returns-in-Refused-clause-cause : goal.returns-in-Refused-clause-cause
returns-in-Refused-clause-cause g c before now cause =
    c.enter_refused.ensures.cause before now
    (subst (HasOutcomeCause before now) c.in-Refused.is cause).reply

pub returns-in-Done-clause-cause : goal.returns-in-Done-clause-cause
returns-in-Done-clause-cause g c before now cause =
    let done = subst (HasOutcomeCause before now) c.in-Done.is cause in
    c.enter_read.ensures.cause before now done.reply done.calm

pub returns-in-Pointed-clause-cause : goal.returns-in-Pointed-clause-cause
returns-in-Pointed-clause-cause g c before now cause =
    let pointed = subst (HasOutcomeCause before now) c.in-Pointed.is cause in
    cause-entered (c.enter_point.ensures.replied before now pointed.reply pointed.calm)
