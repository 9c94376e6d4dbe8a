use Rattle.std.proofs.Common.{ap, map, subst, sym, ◌∙◌}
use Rattle.vr_history.specs.State.{BeforeImage}
use Rattle.vr_undo.specs.Records.{befores_of, image_of}
use Rattle.vr_store.specs.LastImage.{IsMetBy, OnLast, last_of_unit}
use Rattle.vr_store.specs.Parts.{OnlyMet}
use Rattle.vr_store.specs.Store.{IsFitImage, IsSet, IsStored, Stands, StoreNow, part_now}
use Rattle.vr_store.specs.Store.{shape_among, store_of}
use Rattle.vr_store.proofs.LastImages.{last-has, last-lent, last-on}
use Rattle.vr_store.proofs.PlacedParts.{shapes-same, split-met}
use Rattle.vr_store.proofs.Rooms.{met-at}
use Rattle.vr_store.proofs.store.Store.meet_last.Goals as goal

pub ask_at-requires-clause-part : goal.ask_at-requires-clause-part
ask_at-requires-clause-part g c =
    let unit = c.args.unit in
    let inside = c.self.inside in
    let before = c.in-Some.before.now in
    let parts = map (part_now g.P.Part.shape g.P.Part.known) inside.parts.items in
    let set = subst (λ (s : StoreNow). IsSet s (g.B.Blocks.seen c.args.blocks.now))
    (sym c.self.view_is) c.requires.set in
    (last-has (IsFitImage parts) unit (befores_of inside.undo) (image_of unit before) set.kept
    (last-lent unit (befores_of inside.undo) c.last.result c.in-Some.before c.in-Some.is
    c.last.ensures)).part

pub ask_at-requires-clause-place : goal.ask_at-requires-clause-place
ask_at-requires-clause-place g c =
    let unit = c.args.unit in
    let inside = c.self.inside in
    let before = c.in-Some.before.now in
    let parts = map (part_now g.P.Part.shape g.P.Part.known) inside.parts.items in
    let set = subst (λ (s : StoreNow). IsSet s (g.B.Blocks.seen c.args.blocks.now))
    (sym c.self.view_is) c.requires.set in
    (last-has (IsFitImage parts) unit (befores_of inside.undo) (image_of unit before) set.kept
    (last-lent unit (befores_of inside.undo) c.last.result c.in-Some.before c.in-Some.is
    c.last.ensures)).place

pub returns-in_err-room-in-Some-clause-shapes : goal.returns-in_err-room-in-Some-clause-shapes
returns-in_err-room-in-Some-clause-shapes g c number =
    let shape = g.P.Part.shape in
    let known = g.P.Part.known in
    let old = map (part_now shape known) c.self.inside.parts.items in
    let new = map (part_now shape known) c.ask_at.new.parts.items in
    shapes-same new old (split-met new old c.ask_at.ensures.parts.parts) number
    ∙ ap (λ (s : StoreNow). shape_among s.parts number) c.self.view_is

pub returns-in_err-room-in-Some-clause-stored : goal.returns-in_err-room-in-Some-clause-stored
returns-in_err-room-in-Some-clause-stored g c told volume state stored =
    c.ask_at.ensures.stored told volume state
    (subst (λ (s : StoreNow). IsStored volume s state (g.B.Blocks.seen c.args.blocks.now))
    (sym c.self.view_is) stored)

pub returns-clause-shapes : goal.returns-clause-shapes
returns-clause-shapes g c number =
    let shape = g.P.Part.shape in
    let known = g.P.Part.known in
    let old = map (part_now shape known) c.self.inside.parts.items in
    let new = map (part_now shape known) c.ask_at.new.parts.items in
    shapes-same new old (split-met new old c.ask_at.ensures.parts.parts) number
    ∙ ap (λ (s : StoreNow). shape_among s.parts number) c.self.view_is

pub returns-clause-stored : goal.returns-clause-stored
returns-clause-stored g c told volume state stored =
    c.ask_at.ensures.stored told volume state
    (subst (λ (s : StoreNow). IsStored volume s state (g.B.Blocks.seen c.args.blocks.now))
    (sym c.self.view_is) stored)

pub returns-clause-due : goal.returns-clause-due
returns-clause-due g c told =
    let shape = g.P.Part.shape in
    let known = g.P.Part.known in
    let inside = c.self.inside in
    let unit = c.args.unit in
    let before = c.in-Some.before.now in
    let a = g.B.Blocks.seen c.args.blocks.now in
    let b = g.B.Blocks.seen c.ask_at.new.blocks in
    let new : StoreNow = store_of shape known inside.log inside.undo c.ask_at.new.parts.items
    inside.changed.items inside.space in
    let stands = subst (λ (s : StoreNow). Stands s a) (sym c.self.view_is)
    (c.requires.stands told) in
    let still : Stands new b = record {
      number = stands.number;
      state = stands.state;
      stored = c.ask_at.ensures.stored told stands.number stands.state stands.stored;
    } in
    last-on (λ (last : BeforeImage). IsMetBy c.is_stage.result new b.cur last.part last.place
    c.args.length) (last_of_unit c.args.self.now unit) (image_of unit before)
    (ap (λ (s : StoreNow). last_of_unit s unit) (sym c.self.view_is)
    ∙ last-lent unit (befores_of inside.undo) c.last.result c.in-Some.before c.in-Some.is
    c.last.ensures)
    (met-at new b c.ask_at.ensures.set still before.part.0 before.place c.args.length
    c.in_ok-room-in-Some.room (c.in_ok-room-in-Some.ensures.still told) c.is_stage.result
    (sym c.is_stage.ensures))

pub returns-in_err-room-in-Some-clause-parts : goal.returns-in_err-room-in-Some-clause-parts
returns-in_err-room-in-Some-clause-parts g c =
    let inside = c.self.inside in
    let store : StoreNow = store_of g.P.Part.shape g.P.Part.known inside.log inside.undo
    inside.parts.items inside.changed.items inside.space in
    let new = map (part_now g.P.Part.shape g.P.Part.known) c.ask_at.new.parts.items in
    subst (λ (s : StoreNow). OnLast s c.args.unit (λ (last : BeforeImage).
    OnlyMet last.part s.parts new)) c.self.view_is
    (last-on (λ (last : BeforeImage). OnlyMet last.part store.parts new)
    (last_of_unit store c.args.unit) (image_of c.args.unit c.in-Some.before.now)
    (last-lent c.args.unit (befores_of inside.undo) c.last.result c.in-Some.before c.in-Some.is
    c.last.ensures) c.ask_at.ensures.parts)

pub returns-clause-parts : goal.returns-clause-parts
returns-clause-parts g c =
    let inside = c.self.inside in
    let store : StoreNow = store_of g.P.Part.shape g.P.Part.known inside.log inside.undo
    inside.parts.items inside.changed.items inside.space in
    let new = map (part_now g.P.Part.shape g.P.Part.known) c.ask_at.new.parts.items in
    subst (λ (s : StoreNow). OnLast s c.args.unit (λ (last : BeforeImage).
    OnlyMet last.part s.parts new)) c.self.view_is
    (last-on (λ (last : BeforeImage). OnlyMet last.part store.parts new)
    (last_of_unit store c.args.unit) (image_of c.args.unit c.in-Some.before.now)
    (last-lent c.args.unit (befores_of inside.undo) c.last.result c.in-Some.before c.in-Some.is
    c.last.ensures) c.ask_at.ensures.parts)
