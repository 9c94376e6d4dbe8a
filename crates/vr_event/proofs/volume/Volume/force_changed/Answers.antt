use Rattle.std.proofs.Common.{[], ◌∙◌, ap, subst, sym}
use Rattle.vr_types.specs.Moments.{Guards}
use Rattle.vr_record_file.specs.Now.{state_now}
use Rattle.vr_volume.specs.Crashes.{RecoversTo}
use Rattle.vr_store.specs.Store.{StoreNow}
use Rattle.vr_event.specs.Volume.{IsHeld, VolumeNow}
use Rattle.vr_event.proofs.Recovers.{recovers-safe}
use Rattle.vr_event.proofs.Wholes.{held-moved}
use Rattle.std.proofs.Common.{◌≢◌, ◌<◌}
use Rattle.vr_store.specs.Left.{left_for}
use Rattle.std.specs.Prelude.{OnOk}
use Rattle.vr_store.specs.Store.{blocks_of}
use Rattle.vr_event.proofs.volume.Volume.force_changed.Goals as goal

pub returns-clause-held : goal.returns-clause-held
returns-clause-held g c told opening held =
    let seen = g.B.Blocks.seen in
    let before : VolumeNow g.row.B.Denot = record {
      blocks = c.self.inside.blocks;
      number = c.self.inside.number;
      store = c.self.inside.store;
      file = c.self.inside.file;
    } in
    let then : IsHeld seen opening before =
    subst (IsHeld seen opening) (sym c.self.view_is) held in
    held-moved seen opening before c.force_changed.new.self c.force_changed.new.blocks
    (ap (λ (s : StoreNow). s.space) c.force_changed.ensures.rest)
    (λ going. c.force_changed.ensures.stored told before.number (state_now opening before.file)
    (then.stored going)) then

pub returns-clause-moments : goal.returns-clause-moments
returns-clause-moments g c told opening held =
    let seen = g.B.Blocks.seen in
    let before : VolumeNow g.row.B.Denot = record {
      blocks = c.self.inside.blocks;
      number = c.self.inside.number;
      store = c.self.inside.store;
      file = c.self.inside.file;
    } in
    let state = state_now opening before.file in
    let then : IsHeld seen opening before =
    subst (IsHeld seen opening) (sym c.self.view_is) held in
    let stored = then.stored (ap (λ (v : VolumeNow g.row.B.Denot). v.file.stopped) c.self.view_is
    ∙ c.requires.going) in
    subst (λ (v : VolumeNow g.row.B.Denot). Guards (seen v.blocks) (seen c.force_changed.new.blocks)
    (RecoversTo v.store.log.geometry v.number (state_now opening v.file) [])) c.self.view_is
    (recovers-safe before.number before.store state (seen before.blocks)
    (seen c.force_changed.new.blocks) stored
    (c.force_changed.ensures.moments told before.number state stored))

pub returns-clause-nearer : goal.returns-clause-nearer
returns-clause-nearer g c =
    let unit = c.args.unit in
    subst (λ (v : VolumeNow g.row.B.Denot). blocks_of unit v.store.changed ≢ []
    → OnOk c.force_changed.result (left_for unit c.force_changed.new.self < left_for unit v.store))
    c.self.view_is c.force_changed.ensures.nearer
