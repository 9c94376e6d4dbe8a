use Rattle.std.proofs.Common.{◌≡◌, ◌∙◌, ap, refl, subst, sym, Some, List, All, length, arith}
use Rattle.vr_volume.specs.declared.setting.EntryChange.{EntryChange}
use Rattle.vr_store.specs.Parts.{HasRoomToMeet}
use Rattle.vr_store.specs.Store.{StoreNow}
use Rattle.vr_event.specs.EditSteps.{AreMetAt, IsOpenAt, LacksRoomForOne}
use Rattle.vr_event.specs.declared.edit.Edit.{Edit}
use Rattle.vr_event.specs.declared.edit.Edit.TheVariants as answers
use Rattle.vr_event.proofs.AskedClusters.{holds-later}
use Rattle.vr_event.proofs.EditAsked.{ready-after}
use Rattle.vr_event.proofs.EditCome.{come-after, come-held-after, stepped-held}
use Rattle.vr_event.proofs.EditMade.{made-places}
use Rattle.vr_event.proofs.EditOpened.{lacks-room}
use Rattle.vr_event.proofs.UtilitySteps.{less-after, less-as, same-ok}
use Rattle.vr_event.proofs.volume.Volume.edit_met.Goals as goal

pub open_changes-requires-clause-may : goal.open_changes-requires-clause-may
open_changes-requires-clause-may g c =
    let may = c.requires.ready.may in
    record {
      whole = may.whole;
      going = may.going;
      room = omega (arith, may.room);
      last = omega (arith, may.last);
      after_is = omega (arith, may.after_is);
    }

pub open_changes-requires-clause-places : goal.open_changes-requires-clause-places
open_changes-requires-clause-places g c = subst (λ (changes : List EntryChange). All (λ (change : EntryChange). length change.place ≡ 44) changes) (sym c.as_slice.ensures.value)
    (made-places g.B.Blocks.seen c.args.after c.args.line c.args.edit.now c.args.self.now
    c.args.prepared c.args.unit c.requires.ready)

pub open_changes-requires-clause-room : goal.open_changes-requires-clause-room
open_changes-requires-clause-room g c = subst (λ (changes : List EntryChange).
    HasRoomToMeet 0 (length changes) c.args.self.now.store.parts) (sym c.as_slice.ensures.value)
    c.requires.room

pub make_edit-requires-clause-ready : goal.make_edit-requires-clause-ready
make_edit-requires-clause-ready g c =
    let met = c.open_changes.ensures.met c.in-None.is in
    ready-after g.B.Blocks.seen c.args.after c.args.self.now c.open_changes.new.self
    c.open_changes.ensures.opened.whole met.0.file c.args.edit.now c.args.unit c.args.prepared
    c.open_changes.ensures.opened.number (ap (λ (s : StoreNow). s.log) met.0.rest)
    c.requires.ready

pub make_edit-requires-clause-met : goal.make_edit-requires-clause-met
make_edit-requires-clause-met g c =
    let met = c.open_changes.ensures.met c.in-None.is in
    subst (AreMetAt c.open_changes.new.self.store.parts) c.as_slice.ensures.value met.1

pub make_edit-requires-clause-open : goal.make_edit-requires-clause-open
make_edit-requires-clause-open g c told = subst (All (IsOpenAt c.open_changes.new.self.store
    (g.B.Blocks.seen c.open_changes.new.self.blocks).cur)) c.as_slice.ensures.value
    (c.open_changes.ensures.open told c.in-None.is)

pub make_edit-requires-clause-holds : goal.make_edit-requires-clause-holds
make_edit-requires-clause-holds g c told = holds-later g.B.Blocks.seen c.args.self.now
    c.open_changes.new.self (c.requires.holds told) (λ opening held.
    let then = c.open_changes.ensures.held told opening held in then.held)

pub returns-in-Some-clause-less : goal.returns-in-Some-clause-less
returns-in-Some-clause-less g c told =
    less-as (c.open_changes.result ≡ Some answers.Again) _ c.args.self.now c.open_changes.new.self
    (λ is. c.in-Some.is ∙ ap (λ (answer : Edit). Some answer) (same-ok refl is))
    (c.open_changes.ensures.less told)

pub returns-in-Some-clause-held : goal.returns-in-Some-clause-held
returns-in-Some-clause-held g c told opening held =
    let then = c.open_changes.ensures.held told opening held in
    stepped-held g.B.Blocks.seen c.args.after c.args.unit c.args.line c.args.edit.now opening
    c.args.self.now c.open_changes.new.self then.held then.moments

pub returns-in-Some-clause-no_room : goal.returns-in-Some-clause-no_room
returns-in-Some-clause-no_room g c told is =
    lacks-room g.B.Blocks.seen c.args.after c.args.unit c.args.line c.args.edit.now c.args.prepared
    c.args.self.now c.requires.ready
    (subst (λ (changes : List EntryChange). LacksRoomForOne changes c.args.self.now.store
    (g.B.Blocks.seen c.args.self.now.blocks).cur)
    (c.as_slice.ensures.value ∙ c.requires.ready.prepared_is.changes)
    (c.open_changes.ensures.no_room told
    (c.in-Some.is ∙ ap (λ (answer : Edit). Some answer) is)))

pub returns-in-None-clause-come : goal.returns-in-None-clause-come
returns-in-None-clause-come g c =
    let met = c.open_changes.ensures.met c.in-None.is in
    come-after g.B.Blocks.seen c.args.after c.args.unit c.args.line c.args.edit.now
    c.make_edit.result c.args.self.now c.open_changes.new.self c.make_edit.new.self met.0.file
    c.open_changes.ensures.opened.number (ap (λ (s : StoreNow). s.log) met.0.rest)
    c.make_edit.ensures.come

pub returns-in-None-clause-less : goal.returns-in-None-clause-less
returns-in-None-clause-less g c told =
    let met = c.open_changes.ensures.met c.in-None.is in
    less-after _ 0 c.args.self.now c.open_changes.new.self c.make_edit.new.self met.0.only
    met.0.rest met.0.file (c.make_edit.ensures.less told)

pub returns-in-None-clause-held : goal.returns-in-None-clause-held
returns-in-None-clause-held g c told opening held =
    let met = c.open_changes.ensures.met c.in-None.is in
    let then = c.open_changes.ensures.held told opening held in
    come-held-after g.B.Blocks.seen c.args.after c.args.unit c.args.line c.args.edit.now opening
    c.args.self.now c.open_changes.new.self c.make_edit.new.self met.0.file
    c.open_changes.ensures.opened.number (ap (λ (s : StoreNow). s.log) met.0.rest) then.moments
    (c.make_edit.ensures.held told opening then.held)
