use Rattle.std.proofs.Common.{ap, subst, sym}
use Rattle.vr_record_file.specs.Now.{state_now}
use Rattle.vr_store.specs.Store.{StoreNow}
use Rattle.vr_event.specs.Volume.{IsHeld, VolumeNow}
use Rattle.vr_event.proofs.Wholes.{held-moved}
use Rattle.std.proofs.Common.{◌≢◌, None}
use Rattle.vr_event.specs.Nearer.{MeetsOnly}
use Rattle.vr_event.proofs.CountedSplits.{meets-last}
use Rattle.vr_store.specs.LastImage.{last_of_unit}
use Rattle.vr_event.proofs.volume.Volume.meet_back.Goals as goal

pub returns-clause-held : goal.returns-clause-held
returns-clause-held g c told opening held =
    let seen = g.B.Blocks.seen in
    let before : VolumeNow g.row.B.Denot = record {
      blocks = c.self.inside.blocks;
      number = c.self.inside.number;
      store = c.self.inside.store;
      file = c.self.inside.file;
    } in
    let was : IsHeld seen opening before =
    subst (IsHeld seen opening) (sym c.self.view_is) held in
    held-moved seen opening before c.meet_last.new.self c.meet_last.new.blocks
    (ap (λ (s : StoreNow). s.space) c.meet_last.ensures.rest)
    (λ going. c.meet_last.ensures.stored told before.number (state_now opening before.file)
    (was.stored going)) was

pub returns-clause-meets : goal.returns-clause-meets
returns-clause-meets g c =
    let store = c.self.inside.store in
    subst (λ (v : VolumeNow g.row.B.Denot). MeetsOnly v.store c.meet_last.new.self) c.self.view_is
    (meets-last store c.meet_last.new.self c.args.unit
    (subst (λ (v : VolumeNow g.row.B.Denot). last_of_unit v.store c.args.unit ≢ None)
    (sym c.self.view_is) c.requires.some)
    c.meet_last.ensures.parts c.meet_last.ensures.rest)
