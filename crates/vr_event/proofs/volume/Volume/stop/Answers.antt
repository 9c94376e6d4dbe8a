use Rattle.std.proofs.Common.{ap, subst, sym, ◌∙◌}
use Rattle.std.proofs.lemmas.Option.{none-some}
use Rattle.vr_types.specs.declared.reply.Refusal.TheVariants.{WriteFault}
use Rattle.vr_types.specs.declared.reply.Reply.TheVariants.{Refused}
use Rattle.vr_record_file.specs.Now.{FileNow, MayBeAsked}
use Rattle.vr_event.specs.Volume.{AreServed, IsFileHeld, VolumeNow}
use Rattle.vr_event.proofs.Entries.{held-known}
use Rattle.vr_event.proofs.Served.{served_same}
use Rattle.vr_event.proofs.Wholes.{whole-stopped}
use Rattle.vr_event.proofs.volume.Volume.stop.Goals as goal

pub returns-clause-held : goal.returns-clause-held
returns-clause-held g c told opening known asked =
    let before : VolumeNow g.row.B.Denot = record {
      blocks = c.self.inside.blocks;
      number = c.self.inside.number;
      store = c.self.inside.store;
      file = c.self.inside.file;
    } in
    let then = subst (IsFileHeld opening) (sym c.self.view_is) known in
    held-known g.B.Blocks.seen opening before c.fail_write.new.self c.args.after c.args.unit
    c.args.line c.args.request c.fail_write.ensures.leaves then
    (c.fail_write.ensures.state opening c.self.inside.file.locks then.file
    (subst (λ (f : FileNow). MayBeAsked opening f c.args.unit c.args.request (Refused WriteFault))
    (sym (ap (λ (v : VolumeNow g.row.B.Denot). v.file) c.self.view_is)) asked))

pub returns-clause-whole : goal.returns-clause-whole
returns-clause-whole g c served =
    let old : FileNow = c.self.inside.file in
    let new : FileNow = c.fail_write.new.self in
    let before : AreServed old.geometry old.catalog =
    subst (λ (v : VolumeNow g.row.B.Denot). AreServed v.file.geometry v.file.catalog)
    (sym c.self.view_is) served in
    whole-stopped g.B.Blocks.seen (record {
      blocks = c.self.inside.blocks;
      number = c.self.inside.number;
      store = c.self.inside.store;
      file = new;
    }) (served_same old.geometry new.geometry old.catalog new.catalog
    (ap (λ (f : FileNow). f.geometry) c.fail_write.ensures.leaves)
    (ap (λ (f : FileNow). f.catalog) c.fail_write.ensures.leaves) before)
    (λ going. none-some _ (sym going ∙ ap (λ (f : FileNow). f.stopped)
    c.fail_write.ensures.leaves))
