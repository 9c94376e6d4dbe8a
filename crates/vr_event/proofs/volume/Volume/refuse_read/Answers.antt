use Rattle.std.proofs.Common.{ap, refl, subst, sym}
use Rattle.vr_types.specs.declared.reply.Refusal.TheVariants.{ReadFault}
use Rattle.vr_types.specs.declared.reply.Reply.TheVariants.{Refused}
use Rattle.vr_record_file.specs.Now.{FileNow, MayBeAsked}
use Rattle.vr_event.specs.Acting.{IsActed}
use Rattle.vr_event.specs.Volume.{IsHeld, VolumeNow}
use Rattle.vr_event.specs.declared.act.Act.TheVariants.{Done}
use Rattle.vr_event.proofs.Acts.{acted-read}
use Rattle.vr_event.proofs.Entering.{held-refused}
use Rattle.vr_event.proofs.volume.Volume.refuse_read.Goals as goal

pub returns-clause-held : goal.returns-clause-held
returns-clause-held g c told opening held asked =
    let seen = g.B.Blocks.seen in
    let before : VolumeNow g.row.B.Denot = record {
      blocks = c.self.inside.blocks;
      number = c.self.inside.number;
      store = c.self.inside.store;
      file = c.self.inside.file;
    } in
    let then : IsHeld seen opening before =
    subst (IsHeld seen opening) (sym c.self.view_is) held in
    held-refused seen opening before c.refuse.new.self c.args.after c.args.unit c.args.line
    c.args.request ReadFault c.refuse.ensures.same then
    (c.refuse.ensures.state opening then.file
    (subst (λ (f : FileNow). MayBeAsked opening f c.args.unit c.args.request (Refused ReadFault))
    (sym (ap (λ (v : VolumeNow g.row.B.Denot). v.file) c.self.view_is)) asked) refl)

pub returns-clause-acted : goal.returns-clause-acted
returns-clause-acted g c before now reads writes =
    subst (λ (f : FileNow). IsActed before now Done c.args.after c.args.unit c.args.line
    c.args.request f c.refuse.new.self)
    (ap (λ (v : VolumeNow g.row.B.Denot). v.file) c.self.view_is)
    (acted-read reads writes c.refuse.ensures.same)
