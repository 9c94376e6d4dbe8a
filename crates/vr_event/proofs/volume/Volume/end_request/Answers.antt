use Rattle.std.proofs.Common.{None, ap, refl, subst, sym}
use Rattle.vr_types.specs.declared.reply.Reply.TheVariants.{Done}
use Rattle.vr_history.specs.declared.entry.What.TheVariants.{Asked}
use Rattle.vr_record_file.specs.Now.{FileNow, MayBeAsked, entry_next}
use Rattle.vr_event.specs.Acting.{IsActed}
use Rattle.vr_event.specs.Volume.{IsHeld, VolumeNow}
use Rattle.vr_event.specs.declared.act.Act.TheVariants as acts
use Rattle.vr_event.proofs.Acts.{acted-entered, entered-done}
use Rattle.vr_event.proofs.Readings.{alike-ended, held-entered}
use Rattle.vr_event.proofs.volume.Volume.end_request.Goals as goal

pub returns-clause-held : goal.returns-clause-held
returns-clause-held g c told opening on held asked is =
    let seen = g.B.Blocks.seen in
    let before : VolumeNow g.row.B.Denot = record {
      blocks = c.self.inside.blocks;
      number = c.self.inside.number;
      store = c.self.inside.store;
      file = c.self.inside.file;
    } in
    let file = c.self.inside.file in
    let then : IsHeld seen opening before =
    subst (IsHeld seen opening) (sym c.self.view_is) held in
    let may = subst (λ (f : FileNow). MayBeAsked opening f c.args.unit c.args.request
    (Done 0 None None)) (sym (ap (λ (v : VolumeNow g.row.B.Denot). v.file) c.self.view_is)) asked in
    held-entered seen opening before c.end_request.new.self c.args.after c.args.unit c.args.line
    (Asked c.args.request (Done 0 None None)) file.locks c.end_request.new.self.files
    c.end_request.new.self.files_room c.end_request.ensures.leaves
    (alike-ended file.geometry opening file.entries (entry_next file.entries c.args.after c.args.unit
    c.args.line (Asked c.args.request (Done 0 None None))) c.args.request 0 None None refl on is)
    then (c.end_request.ensures.state opening on then.file may is)

pub returns-clause-acted : goal.returns-clause-acted
returns-clause-acted g c =
    let faults = g.B.Blocks.faults in
    subst (λ (v : VolumeNow g.row.B.Denot). IsActed (faults v.blocks) (faults c.self.inside.blocks)
    acts.Done c.args.after c.args.unit c.args.line c.args.request v.file c.end_request.new.self)
    c.self.view_is
    (acted-entered (entered-done c.args.after c.args.unit c.args.line c.args.request
    c.self.inside.file c.end_request.new.self (faults c.self.inside.blocks)
    c.end_request.ensures.leaves))
