use Rattle.std.proofs.Common.{ap, subst, sym}
use Rattle.vr_types.specs.declared.reply.Reply.TheVariants.{Refused}
use Rattle.vr_record_file.specs.Now.{FileNow, MayBeAsked}
use Rattle.vr_event.specs.Volume.{IsHeld, VolumeNow}
use Rattle.vr_event.proofs.Entering.{held-refused}
use Rattle.vr_event.proofs.volume.Volume.refuse.Goals as goal

pub returns-clause-held : goal.returns-clause-held
returns-clause-held g c told opening held asked whole =
    let seen = g.B.Blocks.seen in
    let before : VolumeNow g.row.B.Denot = record {
      blocks = c.self.inside.blocks;
      number = c.self.inside.number;
      store = c.self.inside.store;
      file = c.self.inside.file;
    } in
    let then : IsHeld seen opening before =
    subst (IsHeld seen opening) (sym c.self.view_is) held in
    let may = subst (λ (f : FileNow). MayBeAsked opening f c.args.unit c.args.request
    (Refused c.args.refusal))
    (sym (ap (λ (v : VolumeNow g.row.B.Denot). v.file) c.self.view_is)) asked in
    held-refused seen opening before c.refuse.new.self c.args.after c.args.unit c.args.line
    c.args.request c.args.refusal c.refuse.ensures.same then
    (c.refuse.ensures.state opening then.file may whole)
