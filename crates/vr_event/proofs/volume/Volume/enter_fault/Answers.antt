use Rattle.std.proofs.Common.{subst, sym}
use Rattle.vr_event.specs.Volume.{IsFileHeld, VolumeNow}
use Rattle.vr_event.proofs.CatalogPart.{held-faulted}
use Rattle.vr_event.proofs.volume.Volume.enter_fault.Goals as goal

pub returns-clause-held : goal.returns-clause-held
returns-clause-held g c told opening known =
    let before : VolumeNow g.row.B.Denot = record {
      blocks = c.self.inside.blocks;
      number = c.self.inside.number;
      store = c.self.inside.store;
      file = c.self.inside.file;
    } in
    let then = subst (IsFileHeld opening) (sym c.self.view_is) known in
    held-faulted g.B.Blocks.seen opening before c.fault.new.self c.args.after c.args.unit
    c.args.line c.fault.ensures.leaves then (c.fault.ensures.state opening then.file)
