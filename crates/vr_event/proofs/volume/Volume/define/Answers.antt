-- The areas of the new part are given back first, of which a volume that is held has none.
use Rattle.std.proofs.Common.{◌≡◌, ◌∙◌, None, ap, subst, sym}
use Rattle.std.specs.Prelude.{Ok}
use Rattle.vr_space.specs.Part.{owned_count}
use Rattle.vr_store.specs.Store.{part_among}
use Rattle.vr_event.specs.DefineSteps.{HasComeHeld, LacksRoomWhere}
use Rattle.vr_event.specs.Defining.{utility_unit}
use Rattle.vr_event.specs.Nearer.{LeavesLess}
use Rattle.vr_event.specs.Volume.{Holds, IsHeld, VolumeNow}
use Rattle.vr_event.specs.declared.define.Define.TheVariants as defines
use Rattle.vr_event.proofs.DefineWhole.{not-there}
use Rattle.vr_event.proofs.Unlaid.{come-back, less-back, holds-back, lacks-back}
use Rattle.vr_event.proofs.volume.Volume.define.Goals as goal

pub give_back-requires : goal.give_back-requires
give_back-requires g c = record {
  fresh = subst (λ (v : VolumeNow g.row.B.Denot).
      part_among v.store.parts c.args.entry.now.part.0 ≡ None) (sym c.self.view_is)
      (not-there g.B.Blocks.seen c.args.self.now c.requires.whole c.requires.going
      c.args.entry.now c.requires.entry);
}

pub define_in_area-requires-clause-holds : goal.define_in_area-requires-clause-holds
define_in_area-requires-clause-holds g c told =
    let store = c.give_back.new.self in
    let entry = c.args.entry.now in
    subst (λ (v : VolumeNow g.row.B.Denot). Holds g.B.Blocks.seen (record v { store = store }))
    (sym c.self.view_is)
    (holds-back g.B.Blocks.seen entry c.args.self.now store c.requires.whole c.requires.going
    c.requires.entry (λ none. c.give_back.ensures.same
    (ap (λ (v : VolumeNow g.row.B.Denot). owned_count entry.part v.store.space) c.self.view_is
    ∙ none) ∙ ap (λ (v : VolumeNow g.row.B.Denot). v.store) c.self.view_is)
    (c.requires.holds told))

pub returns-clause-held : goal.returns-clause-held
returns-clause-held g c told opening held =
    let seen = g.B.Blocks.seen in
    let store = c.give_back.new.self in
    let entry = c.args.entry.now in
    let final = c.define_in_area.new.self in
    let come = come-back seen entry c.args.self.now store c.requires.whole c.requires.going
    c.requires.entry (λ none. c.give_back.ensures.same
    (ap (λ (v : VolumeNow g.row.B.Denot). owned_count entry.part v.store.space) c.self.view_is
    ∙ none) ∙ ap (λ (v : VolumeNow g.row.B.Denot). v.store) c.self.view_is)
    c.args.after c.args.line final opening held
    (subst (λ (v : VolumeNow g.row.B.Denot). IsHeld seen opening (record v { store = store })
    → HasComeHeld seen opening c.args.after (utility_unit v.file) c.args.line entry
    (record v { store = store }) final) c.self.view_is
    (c.define_in_area.ensures.held told opening)) in
    come.held

pub returns-clause-moments : goal.returns-clause-moments
returns-clause-moments g c told opening held =
    let seen = g.B.Blocks.seen in
    let store = c.give_back.new.self in
    let entry = c.args.entry.now in
    let final = c.define_in_area.new.self in
    let come = come-back seen entry c.args.self.now store c.requires.whole c.requires.going
    c.requires.entry (λ none. c.give_back.ensures.same
    (ap (λ (v : VolumeNow g.row.B.Denot). owned_count entry.part v.store.space) c.self.view_is
    ∙ none) ∙ ap (λ (v : VolumeNow g.row.B.Denot). v.store) c.self.view_is)
    c.args.after c.args.line final opening held
    (subst (λ (v : VolumeNow g.row.B.Denot). IsHeld seen opening (record v { store = store })
    → HasComeHeld seen opening c.args.after (utility_unit v.file) c.args.line entry
    (record v { store = store }) final) c.self.view_is
    (c.define_in_area.ensures.held told opening)) in
    come.moments

pub returns-clause-no_room : goal.returns-clause-no_room
returns-clause-no_room g c told =
    let seen = g.B.Blocks.seen in
    let store = c.give_back.new.self in
    let entry = c.args.entry.now in
    lacks-back seen entry c.args.self.now store c.requires.whole c.requires.going c.requires.entry
    (λ none. c.give_back.ensures.same
    (ap (λ (v : VolumeNow g.row.B.Denot). owned_count entry.part v.store.space) c.self.view_is
    ∙ none) ∙ ap (λ (v : VolumeNow g.row.B.Denot). v.store) c.self.view_is)
    c.define_in_area.result (c.requires.holds told)
    (subst (λ (v : VolumeNow g.row.B.Denot). LacksRoomWhere seen entry c.define_in_area.result
    (record v { store = store })) c.self.view_is (c.define_in_area.ensures.no_room told))

pub returns-clause-nearer : goal.returns-clause-nearer
returns-clause-nearer g c told =
    let store = c.give_back.new.self in
    let less = less-back g.B.Blocks.seen c.args.entry.now c.args.self.now store c.requires.whole
    c.requires.going c.requires.entry (λ none. c.give_back.ensures.same
    (ap (λ (v : VolumeNow g.row.B.Denot). owned_count c.args.entry.now.part v.store.space)
    c.self.view_is ∙ none) ∙ ap (λ (v : VolumeNow g.row.B.Denot). v.store) c.self.view_is)
    (c.define_in_area.result ≡ Ok defines.Again) c.define_in_area.new.self (c.requires.holds told)
    (subst (λ (v : VolumeNow g.row.B.Denot). LeavesLess (c.define_in_area.result ≡ Ok defines.Again)
    (record v { store = store }) c.define_in_area.new.self) c.self.view_is
    (c.define_in_area.ensures.less told)) in
    less.nearer

pub returns-clause-splits : goal.returns-clause-splits
returns-clause-splits g c told =
    let store = c.give_back.new.self in
    let less = less-back g.B.Blocks.seen c.args.entry.now c.args.self.now store c.requires.whole
    c.requires.going c.requires.entry (λ none. c.give_back.ensures.same
    (ap (λ (v : VolumeNow g.row.B.Denot). owned_count c.args.entry.now.part v.store.space)
    c.self.view_is ∙ none) ∙ ap (λ (v : VolumeNow g.row.B.Denot). v.store) c.self.view_is)
    (c.define_in_area.result ≡ Ok defines.Again) c.define_in_area.new.self (c.requires.holds told)
    (subst (λ (v : VolumeNow g.row.B.Denot). LeavesLess (c.define_in_area.result ≡ Ok defines.Again)
    (record v { store = store }) c.define_in_area.new.self) c.self.view_is
    (c.define_in_area.ensures.less told)) in
    less.splits
