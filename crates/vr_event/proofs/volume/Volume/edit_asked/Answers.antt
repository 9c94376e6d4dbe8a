use Rattle.std.proofs.Common.{◌∙◌, ap, refl, subst, ℕ}
use Rattle.vr_store.specs.Parts.{HasRoomToMeet}
use Rattle.vr_store.specs.Store.{StoreNow}
use Rattle.vr_event.proofs.AskedClusters.{holds-later}
use Rattle.vr_event.proofs.EditAsked.{ready-after}
use Rattle.vr_event.proofs.EditCome.{come-after, come-held-after, come-memory, stepped-held}
use Rattle.vr_event.proofs.EditPlaces.{lacks-where}
use Rattle.vr_event.proofs.UtilitySteps.{less-after, less-met, not-err}
use Rattle.vr_event.proofs.volume.Volume.edit_asked.Goals as goal

-- ---- the catalog has room for what it meets

pub edit_met-requires-clause-ready : goal.edit_met-requires-clause-ready
edit_met-requires-clause-ready g c =
    let only = c.keep_places.ensures.only in
    ready-after g.B.Blocks.seen c.args.after c.args.self.now c.keep_places.new.self
    c.keep_places.ensures.whole only.file c.args.edit.now c.args.unit c.args.prepared
    c.keep_places.ensures.number (ap (λ (s : StoreNow). s.log) only.rest) c.requires.ready

pub edit_met-requires-clause-room : goal.edit_met-requires-clause-room
edit_met-requires-clause-room g c = subst (λ (n : ℕ).
    HasRoomToMeet 0 n c.keep_places.new.self.store.parts)
    (c.len.ensures ∙ c.args.prepared.changes.ok.0) c.in-Ok.ensures.room

pub edit_met-requires-clause-holds : goal.edit_met-requires-clause-holds
edit_met-requires-clause-holds g c told = holds-later g.B.Blocks.seen c.args.self.now
    c.keep_places.new.self (c.requires.holds told) (λ opening held.
    let then = c.keep_places.ensures.held told opening held in then.held)

pub returns-in-Ok-clause-come : goal.returns-in-Ok-clause-come
returns-in-Ok-clause-come g c =
    let only = c.keep_places.ensures.only in
    come-after g.B.Blocks.seen c.args.after c.args.unit c.args.line c.args.edit.now
    c.edit_met.result c.args.self.now c.keep_places.new.self c.edit_met.new.self only.file
    c.keep_places.ensures.number (ap (λ (s : StoreNow). s.log) only.rest)
    c.edit_met.ensures.come

pub returns-in-Ok-clause-no_room : goal.returns-in-Ok-clause-no_room
returns-in-Ok-clause-no_room g c told =
    let B = g.B.Blocks in
    lacks-where B.seen c.args.self.now c.keep_places.new.self
    c.keep_places.ensures.whole (ap (λ f. f.stopped) c.keep_places.ensures.only.file
    ∙ c.requires.ready.may.going) c.keep_places.ensures.only
    (ap (λ b. (B.seen b).cur) c.keep_places.ensures.blocks) c.args.edit.now c.edit_met.result
    (c.edit_met.ensures.no_room told)

pub returns-in-Ok-clause-less : goal.returns-in-Ok-clause-less
returns-in-Ok-clause-less g c told =
    let only = c.keep_places.ensures.only in
    less-after _ 0 c.args.self.now c.keep_places.new.self c.edit_met.new.self only.only
    only.rest only.file (c.edit_met.ensures.less told)

pub returns-in-Ok-clause-held : goal.returns-in-Ok-clause-held
returns-in-Ok-clause-held g c told opening held =
    let only = c.keep_places.ensures.only in
    let then = c.keep_places.ensures.held told opening held in
    come-held-after g.B.Blocks.seen c.args.after c.args.unit c.args.line c.args.edit.now opening
    c.args.self.now c.keep_places.new.self c.edit_met.new.self only.file
    c.keep_places.ensures.number (ap (λ (s : StoreNow). s.log) only.rest) then.moments
    (c.edit_met.ensures.held told opening then.held)

-- ---- it has none

pub returns-in-Err-clause-come : goal.returns-in-Err-clause-come
returns-in-Err-clause-come g c =
    let only = c.keep_places.ensures.only in
    come-memory g.B.Blocks.seen c.args.after c.args.unit c.args.line c.args.edit.now c.in-Err.no
    c.args.self.now c.keep_places.new.self c.keep_places.ensures.whole only.file
    c.keep_places.ensures.number (ap (λ (s : StoreNow). s.log) only.rest)

pub returns-in-Err-clause-less : goal.returns-in-Err-clause-less
returns-in-Err-clause-less g c told =
    let only = c.keep_places.ensures.only in
    less-met _ 0 c.args.self.now c.keep_places.new.self (λ is. not-err refl is) only.only
    only.file

pub returns-in-Err-clause-held : goal.returns-in-Err-clause-held
returns-in-Err-clause-held g c told opening held =
    let then = c.keep_places.ensures.held told opening held in
    stepped-held g.B.Blocks.seen c.args.after c.args.unit c.args.line c.args.edit.now opening
    c.args.self.now c.keep_places.new.self then.held then.moments
