use Rattle.std.proofs.Common.{◌≡◌, ◌∙◌, None, ap, refl, subst, sym}
use Rattle.vr_types.proofs.CallerLemmas.{keeps-none}
use Rattle.vr_record_file.specs.Now.{state_now}
use Rattle.vr_store.specs.Store.{StoreNow}
use Rattle.vr_event.specs.EditSteps.{HasMetOnly, HasOpenedHeld}
use Rattle.vr_event.specs.Volume.{IsHeld, IsWhole, VolumeNow}
use Rattle.vr_event.proofs.CatalogPart.{catalog-there}
use Rattle.vr_event.proofs.MetParts.{met-shapes}
use Rattle.vr_event.proofs.Recovers.{recovers-keeps}
use Rattle.vr_event.proofs.Wholes.{held-moved, whole-of}
use Rattle.vr_event.proofs.volume.Volume.keep_places.Goals as goal

pub keep_places-requires : goal.keep_places-requires
keep_places-requires g c =
    let seen = g.B.Blocks.seen in
    let before : VolumeNow g.row.B.Denot = record {
      blocks = c.self.inside.blocks;
      number = c.self.inside.number;
      store = c.self.inside.store;
      file = c.self.inside.file;
    } in
    let goes : before.file.stopped ≡ None =
    ap (λ (v : VolumeNow g.row.B.Denot). v.file.stopped) c.self.view_is ∙ c.requires.going in
    record {
      part = catalog-there before.store.parts before.file.geometry
          ((subst (IsWhole seen) (sym c.self.view_is) c.requires.whole).laid goes 0);
    }

pub returns-clause-whole : goal.returns-clause-whole
returns-clause-whole g c =
    let seen = g.B.Blocks.seen in
    let before : VolumeNow g.row.B.Denot = record {
      blocks = c.self.inside.blocks;
      number = c.self.inside.number;
      store = c.self.inside.store;
      file = c.self.inside.file;
    } in
    let whole : IsWhole seen before = subst (IsWhole seen) (sym c.self.view_is) c.requires.whole in
    whole-of seen before c.keep_places.new.self before.blocks before.file whole
    (λ going. going) refl refl
    (λ going. ap (λ (s : StoreNow). s.log.geometry) c.keep_places.ensures.rest)
    (λ going. met-shapes 0 before.store.parts c.keep_places.new.self.parts
    c.keep_places.ensures.parts)
    (λ going. c.keep_places.ensures.set (whole.set going))

pub returns-clause-only : goal.returns-clause-only
returns-clause-only g c =
    let seen = g.B.Blocks.seen in
    let before : VolumeNow g.row.B.Denot = record {
      blocks = c.self.inside.blocks;
      number = c.self.inside.number;
      store = c.self.inside.store;
      file = c.self.inside.file;
    } in
    let after : VolumeNow g.row.B.Denot = record before { store = c.keep_places.new.self } in
    subst (λ (v : VolumeNow g.row.B.Denot). HasMetOnly seen v after) c.self.view_is (record {
      file = refl;
      only = c.keep_places.ensures.parts;
      rest = c.keep_places.ensures.rest;
    })

pub returns-clause-held : goal.returns-clause-held
returns-clause-held g c told opening held =
    let seen = g.B.Blocks.seen in
    let before : VolumeNow g.row.B.Denot = record {
      blocks = c.self.inside.blocks;
      number = c.self.inside.number;
      store = c.self.inside.store;
      file = c.self.inside.file;
    } in
    let was : IsHeld seen opening before =
    subst (IsHeld seen opening) (sym c.self.view_is) held in
    let goes : before.file.stopped ≡ None =
    ap (λ (v : VolumeNow g.row.B.Denot). v.file.stopped) c.self.view_is ∙ c.requires.going in
    let still = keeps-none g.B.Blocks.tells (seen before.blocks)
    (λ told image is. g.met.B.Blocks.images_may before.blocks image told is) in
    let after : VolumeNow g.row.B.Denot = record before { store = c.keep_places.new.self } in
    subst (λ (v : VolumeNow g.row.B.Denot). HasOpenedHeld seen opening v after) c.self.view_is
    (record {
      held = held-moved seen opening before c.keep_places.new.self before.blocks
          (ap (λ (s : StoreNow). s.space) c.keep_places.ensures.rest)
          (λ going. c.keep_places.ensures.stored before.number (state_now opening before.file)
          (was.stored going)) was;
      moments = recovers-keeps before.number before.store (state_now opening before.file)
          (seen before.blocks) (seen before.blocks) (was.stored goes) g.B.Blocks.tells told still;
    })
