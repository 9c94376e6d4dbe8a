use Rattle.std.proofs.Common.{◌≡◌, ◌∙◌, [], None, ap, refl, subst, sym}
use Rattle.vr_types.specs.Moments.{Guards}
use Rattle.vr_record_file.specs.Now.{state_now}
use Rattle.vr_volume.specs.Crashes.{RecoversTo}
use Rattle.vr_store.specs.Store.{StoreNow}
use Rattle.vr_event.specs.Volume.{IsHeld, IsWhole, VolumeNow}
use Rattle.vr_event.proofs.CatalogPart.{catalog-there}
use Rattle.vr_event.proofs.MetParts.{met-shapes}
use Rattle.vr_event.proofs.Recovers.{recovers-keeps}
use Rattle.vr_event.proofs.Wholes.{held-moved, whole-of}
use Rattle.vr_event.proofs.volume.Volume.ask_entry.Goals as goal

pub ask_room-requires-clause-part : goal.ask_room-requires-clause-part
ask_room-requires-clause-part g c =
    let seen = g.B.Blocks.seen in
    let before : VolumeNow g.row.B.Denot = record {
      blocks = c.self.inside.blocks;
      number = c.self.inside.number;
      store = c.self.inside.store;
      file = c.self.inside.file;
    } in
    let goes : before.file.stopped ≡ None =
    ap (λ (v : VolumeNow g.row.B.Denot). v.file.stopped) c.self.view_is ∙ c.requires.going in
    catalog-there before.store.parts before.file.geometry
    ((subst (IsWhole seen) (sym c.self.view_is) c.requires.whole).laid goes 0)

pub returns-clause-held : goal.returns-clause-held
returns-clause-held g c told opening held =
    let seen = g.B.Blocks.seen in
    let before : VolumeNow g.row.B.Denot = record {
      blocks = c.self.inside.blocks;
      number = c.self.inside.number;
      store = c.self.inside.store;
      file = c.self.inside.file;
    } in
    let was : IsHeld seen opening before =
    subst (IsHeld seen opening) (sym c.self.view_is) held in
    held-moved seen opening before c.ask_room.new.self c.ask_room.new.blocks
    (ap (λ (s : StoreNow). s.space) c.ask_room.ensures.rest)
    (λ going. c.ask_room.ensures.stored told before.number (state_now opening before.file)
    (was.stored going)) was

pub returns-clause-whole : goal.returns-clause-whole
returns-clause-whole g c =
    let seen = g.B.Blocks.seen in
    let before : VolumeNow g.row.B.Denot = record {
      blocks = c.self.inside.blocks;
      number = c.self.inside.number;
      store = c.self.inside.store;
      file = c.self.inside.file;
    } in
    let whole : IsWhole seen before = subst (IsWhole seen) (sym c.self.view_is) c.requires.whole in
    whole-of seen before c.ask_room.new.self c.ask_room.new.blocks before.file whole
    (λ going. going) refl refl
    (λ going. ap (λ (s : StoreNow). s.log.geometry) c.ask_room.ensures.rest)
    (λ going. met-shapes 0 before.store.parts c.ask_room.new.self.parts c.ask_room.ensures.parts)
    (λ going. c.ask_room.ensures.set)

pub returns-clause-moments : goal.returns-clause-moments
returns-clause-moments g c told opening held =
    let seen = g.B.Blocks.seen in
    let before : VolumeNow g.row.B.Denot = record {
      blocks = c.self.inside.blocks;
      number = c.self.inside.number;
      store = c.self.inside.store;
      file = c.self.inside.file;
    } in
    let was : IsHeld seen opening before =
    subst (IsHeld seen opening) (sym c.self.view_is) held in
    let goes : before.file.stopped ≡ None =
    ap (λ (v : VolumeNow g.row.B.Denot). v.file.stopped) c.self.view_is ∙ c.requires.going in
    subst (λ (v : VolumeNow g.row.B.Denot). Guards (seen v.blocks) (seen c.ask_room.new.blocks)
    (RecoversTo v.store.log.geometry v.number (state_now opening v.file) [])) c.self.view_is
    (recovers-keeps before.number before.store (state_now opening before.file)
    (seen before.blocks) (seen c.ask_room.new.blocks) (was.stored goes) g.B.Blocks.tells told
    c.ask_room.ensures.keeps)

pub returns-clause-content : goal.returns-clause-content
returns-clause-content g c told =
    subst (λ (v : VolumeNow g.row.B.Denot). (g.B.Blocks.seen c.ask_room.new.blocks).cur
    ≡ (g.B.Blocks.seen v.blocks).cur) c.self.view_is (c.ask_room.ensures.keeps.content told)
