use Rattle.std.proofs.Common.{ap, subst, sym}
use Rattle.vr_types.specs.declared.reply.Reply.TheVariants.{Refused}
use Rattle.vr_record_file.specs.Now.{FileNow}
use Rattle.vr_event.specs.Acting.{IsActed}
use Rattle.vr_event.specs.declared.act.Act.TheVariants as acts
use Rattle.vr_event.proofs.Acts.{acted-entered}
use Rattle.vr_event.proofs.Causes.{entered-refused}
use Rattle.vr_event.proofs.Replied.{replied-as}
use Rattle.vr_event.proofs.Serves.{calm-cause, calm-refusal, refused-asked}
use Rattle.vr_event.proofs.volume.Volume.refuse_early.Goals as goal

pub returns-clause-held : goal.returns-clause-held
returns-clause-held g c told opening held may some =
    c.refuse.ensures.held told opening held
    (refused-asked opening c.args.self.now.file c.args.unit c.args.request may c.args.refusal some)
    (calm-refusal c.args.refusal c.requires.calm)

pub returns-clause-acted : goal.returns-clause-acted
returns-clause-acted g c =
    let faults = g.B.Blocks.faults in
    let old = c.args.self.now in
    subst (λ (b : g.row.B.Denot). IsActed (faults old.blocks) (faults b) acts.Done c.args.after
    c.args.unit c.args.line c.args.request old.file c.refuse.new.self.file)
    (sym c.refuse.ensures.blocks)
    (acted-entered (entered-refused c.args.refusal c.refuse.ensures.same
    (calm-cause (faults old.blocks) c.args.refusal c.requires.calm)
    (calm-refusal c.args.refusal c.requires.calm)))

pub returns-clause-replied : goal.returns-clause-replied
returns-clause-replied g c entered =
    replied-as c.args.after c.args.unit c.args.line c.args.request c.args.self.now.file
    c.refuse.new.self.file entered (Refused c.args.refusal)
    (ap (λ (f : FileNow). f.entries) c.refuse.ensures.same)
