use Rattle.std.proofs.Common.{◌≢◌, ℕ, List, None, sym, subst}
use Rattle.vr_catalog.specs.declared.entry.CatEntry.{CatEntry}
use Rattle.vr_space.specs.declared.room.Room.TheVariants as rooms
use Rattle.vr_types.specs.declared.reply.Refusal.{Refusal}
use Rattle.vr_answer.specs.InHand.{whole}
use Rattle.vr_event.specs.Lacking.{IfNoSpace, LacksRoomIn}
use Rattle.vr_event.specs.Putting.{AreLaidBy, IsSpaceOf, MayRefuse}
use Rattle.vr_store.specs.Store.{part_among}
use Rattle.vr_store.specs.Room.{IsRoomAt}
use Rattle.vr_store.specs.declared.no.LookNo.TheVariants.{Fault}
use Rattle.vr_event.proofs.MetParts.{length-same, met-shapes, place-same, ready-same}
use Rattle.vr_event.proofs.Lacks.{lacks-any, look-else}
use Rattle.vr_event.proofs.MetParts.{room-full, room-ready}
use Rattle.vr_event.proofs.Wanting.{lacks-area}
use Rattle.vr_event.proofs.Weighs.{asks-change, before-room, refuse-look}
use Rattle.vr_event.proofs.weighing.weigh_room.Goals as goal

pub returns-in-Err-clause-may : goal.returns-in-Err-clause-may
returns-in-Err-clause-may g c told volume state is at stored space ready =
    let w = whole c.args.case.now state in
    subst (λ (r : Refusal). MayRefuse w r) (sym c.refusal_of.ensures)
    (refuse-look w (asks-change w w.request c.args.place ready.place_is) (Fault c.in-Err.fault))

pub returns-in-Ok-Stage-clause-may : goal.returns-in-Ok-Stage-clause-may
returns-in-Ok-Stage-clause-may g c told volume state is at stored space ready =
    before-room (whole c.args.case.now state) ready.unheld

pub returns-in-Ok-Stage-clause-fits : goal.returns-in-Ok-Stage-clause-fits
returns-in-Ok-Stage-clause-fits g c =
    let old = c.args.store.now.parts in
    let new = c.ask_room.new.self.parts in
    let same = met-shapes c.args.part.0 old new c.ask_room.ensures.parts in (
      place-same old new same c.args.part.0 c.args.place c.requires.at,
      length-same old new same c.args.part.0 c.args.length c.requires.size,
    )

pub returns-in-Ok-NoSpace-clause-fits : goal.returns-in-Ok-NoSpace-clause-fits
returns-in-Ok-NoSpace-clause-fits g c =
    let old = c.args.store.now.parts in
    let new = c.ask_room.new.self.parts in
    let same = met-shapes c.args.part.0 old new c.ask_room.ensures.parts in
    c.crowded.ensures.fits new c.args.part.0
    (ready-same old new same c.args.part.0 c.args.case.now.request.now c.args.place c.args.old
    c.requires.at c.requires.new_fits c.requires.old_fits c.in-Ok-NoSpace.ensures.met
    c.args.length c.requires.size)

pub returns-in-Ok-Ready-clause-fits : goal.returns-in-Ok-Ready-clause-fits
returns-in-Ok-Ready-clause-fits g c =
    let old = c.args.store.now.parts in
    let new = c.ask_room.new.self.parts in
    let same = met-shapes c.args.part.0 old new c.ask_room.ensures.parts in
    c.ready.ensures.fits new c.args.part.0
    (ready-same old new same c.args.part.0 c.args.case.now.request.now c.args.place c.args.old
    c.requires.at c.requires.new_fits c.requires.old_fits c.in-Ok-Ready.ensures.met c.args.length
    c.requires.size)

pub returns-in-Ok-Ready-clause-opens : goal.returns-in-Ok-Ready-clause-opens
returns-in-Ok-Ready-clause-opens g c told =
    let image = (g.B.Blocks.seen c.ask_room.new.blocks).cur in
    c.ready.ensures.opens c.ask_room.new.self image c.args.part.0
    (room-ready c.ask_room.new.self image c.args.part.0 c.args.place _ c.args.length
    (subst (IsRoomAt c.ask_room.new.self image c.args.part.0 c.args.place c.args.length)
    c.in-Ok-Ready.field-0-is (c.in-Ok-Ready.ensures.still told)) c.requires.long)

pub returns-in-Ok-NoSpace-clause-opens : goal.returns-in-Ok-NoSpace-clause-opens
returns-in-Ok-NoSpace-clause-opens g c told =
    let image = (g.B.Blocks.seen c.ask_room.new.blocks).cur in
    c.crowded.ensures.opens c.ask_room.new.self image c.args.part.0
    (room-full c.ask_room.new.self image c.args.part.0 c.args.place c.args.length _ _
    (subst (IsRoomAt c.ask_room.new.self image c.args.part.0 c.args.place c.args.length)
    c.in-Ok-NoSpace.field-0-is (c.in-Ok-NoSpace.ensures.still told)))

pub returns-in-Ok-NoSpace-clause-may : goal.returns-in-Ok-NoSpace-clause-may
returns-in-Ok-NoSpace-clause-may g c told volume state is at stored space ready =
    let w = whole c.args.case.now state in
    let store = c.args.store.now in
    let now = g.B.Blocks.seen c.args.blocks.now in
    let base = c.requires.base in
    c.crowded.ensures.may state is at
    (lacks-area w store now c.requires.set (g.met.B.Blocks.cur_may c.args.blocks.now told)
    (c.requires.stands told)
    (subst (λ (entries : List CatEntry). AreLaidBy c.args.case.now.geometry entries store.parts)
    is.file.catalog c.requires.laid)
    (subst (λ (n : ℕ). IsSpaceOf store n w) base space) c.args.place ready.place_is
    volume stored (asks-change w w.request c.args.place ready.place_is) ready.unheld
    (subst (λ (n : ℕ). part_among store.parts n ≢ None) base c.requires.at.laid) c.args.length
    c.in-Ok-NoSpace.need c.in-Ok-NoSpace.free c.requires.long
    (subst (λ (n : ℕ). IsRoomAt store now.cur n c.args.place c.args.length
    (rooms.NoSpace c.in-Ok-NoSpace.need c.in-Ok-NoSpace.free)) base
    (subst (IsRoomAt store now.cur c.args.part.0 c.args.place c.args.length)
    c.in-Ok-NoSpace.field-0-is (c.in-Ok-NoSpace.ensures.answer told)))) ready

pub returns-in-Ok-NoSpace-clause-lacks : goal.returns-in-Ok-NoSpace-clause-lacks
returns-in-Ok-NoSpace-clause-lacks g c told =
    let image = (g.B.Blocks.seen c.args.blocks.now).cur in
    c.crowded.ensures.lacks c.args.store.now image c.args.part.0 c.args.length c.requires.at.laid
    (subst (IsRoomAt c.args.store.now image c.args.part.0 c.args.place c.args.length)
    c.in-Ok-NoSpace.field-0-is (c.in-Ok-NoSpace.ensures.answer told)) c.requires.long

pub returns-in-Err-clause-lacks : goal.returns-in-Err-clause-lacks
returns-in-Err-clause-lacks g c told =
    let fact = LacksRoomIn c.args.store.now (g.B.Blocks.seen c.args.blocks.now).cur c.args.part.0
    c.args.place c.args.case.now.request.now in
    subst (λ (r : Refusal). IfNoSpace fact r) (sym c.refusal_of.ensures)
    (look-else fact (Fault c.in-Err.fault))

pub returns-in-Ok-Ready-clause-lacks : goal.returns-in-Ok-Ready-clause-lacks
returns-in-Ok-Ready-clause-lacks g c told =
    lacks-any (LacksRoomIn c.args.store.now (g.B.Blocks.seen c.args.blocks.now).cur c.args.part.0
    c.args.place c.args.case.now.request.now) c.ready.result c.ready.ensures.lacks
