use Rattle.std.proofs.Common.{◌≡◌, ℕ, List, Option, Some, None, All, sym, subst, ◌∙◌}
use Rattle.std.proofs.lemmas.Result.{IfOk-weaker, on_ok_weaker}
use Rattle.vr_types.specs.Image.{block_at}
use Rattle.vr_types.specs.declared.unit.PartNo.{PartNo}
use Rattle.vr_space.specs.AreaCalls.{area_part}
use Rattle.vr_space.specs.Areas.{area_by, area_of, content_in}
use Rattle.vr_space.specs.Keyed.{IsHead, KeepsRoom, Keyed}
use Rattle.vr_space.specs.Part.{KeyedShape, part_no}
use Rattle.vr_space.specs.Room.{Lengths}
use Rattle.vr_space.specs.Split.{AreaSplit, MoveNow, SplitNow, area_room, move_stage, split_in}
use Rattle.vr_space.proofs.CallerLemmas.{ComesTo}
use Rattle.vr_keyed.specs.Look.{AreaStands, HasEntry}
use Rattle.vr_keyed.specs.Slots.{IsMetAt, LeavesMet, MeetsOne, mets}
use Rattle.vr_keyed.proofs.Known.{area-at, area-comes, area-known, knows-still, layout-at}
use Rattle.vr_keyed.proofs.Known.{leaves-met, leaves-mine, met-at}
use Rattle.vr_keyed.proofs.Known.{area-inside, room-there, room-waits, rooms-of-area}
use Rattle.vr_keyed.proofs.change.room_over.Goals as goal

pub room_at-requires-clause-stands : goal.room_at-requires-clause-stands
room_at-requires-clause-stands g c told =
    let chain = c.args.areas.now in
    let a = g.B.Blocks.seen c.args.blocks.now in
    let area : ℕ = c.area_of-area.result in
    let layout : c.area-layout.result ≡ area_of chain.part area =
    layout-at c.area-layout.result c.layout.result.now chain.part area c.area-layout.ensures.layout
    c.layout.ensures in
    let is : area_by chain.areas chain.ends c.args.place.now ≡ Some area =
    area-at chain c.as_slice.result.now c.args.place.now area c.as_slice.ensures
    c.area_of-area.ensures.area in
    let comes : ComesTo chain.part a.cur c.args.place.now area =
    area-comes chain a.cur (c.requires.knows told).blocks.0 c.args.place.now area is
    (c.requires.stands told) in
    subst (λ (one : Keyed). AreaStands one a.cur) (sym layout)
    (content_in chain.part a.cur area, comes.linked.stands)

pub room_at-requires-clause-entry : goal.room_at-requires-clause-entry
room_at-requires-clause-entry g c told =
    let chain = c.args.areas.now in
    let a = g.B.Blocks.seen c.args.blocks.now in
    let area : ℕ = c.area_of-area.result in
    let layout : c.area-layout.result ≡ area_of chain.part area =
    layout-at c.area-layout.result c.layout.result.now chain.part area c.area-layout.ensures.layout
    c.layout.ensures in
    let is : area_by chain.areas chain.ends c.args.place.now ≡ Some area =
    area-at chain c.as_slice.result.now c.args.place.now area c.as_slice.ensures
    c.area_of-area.ensures.area in
    let comes : ComesTo chain.part a.cur c.args.place.now area =
    area-comes chain a.cur (c.requires.knows told).blocks.0 c.args.place.now area is
    (c.requires.stands told) in
    subst (λ (one : Keyed). HasEntry one a.cur c.args.place.now) (sym layout) (λ bytes. comes.entry)

pub room_at-requires-clause-met : goal.room_at-requires-clause-met
room_at-requires-clause-met g c told =
    let chain = c.args.areas.now in
    let a = g.B.Blocks.seen c.args.blocks.now in
    let place = c.args.place.now in
    let area : ℕ = c.area_of-area.result in
    let layout : c.area-layout.result ≡ area_of chain.part area =
    layout-at c.area-layout.result c.layout.result.now chain.part area c.area-layout.ensures.layout
    c.layout.ensures in
    let is : area_by chain.areas chain.ends place ≡ Some area =
    area-at chain c.as_slice.result.now place area c.as_slice.ensures
    c.area_of-area.ensures.area in
    let known = (c.requires.knows told).blocks in
    subst (λ (one : Keyed). All (IsMetAt one a.cur place) (mets c.args.slots.now)) (sym layout)
    (met-at chain.part a.cur place area (area-known chain a.cur known.0 place area is)
    (mets c.args.slots.now) known.1)

pub room_at-requires-clause-rooms : goal.room_at-requires-clause-rooms
room_at-requires-clause-rooms g c told =
    let chain = c.args.areas.now in
    let a = g.B.Blocks.seen c.args.blocks.now in
    let place = c.args.place.now in
    let area : ℕ = c.area_of-area.result in
    let layout : c.area-layout.result ≡ area_of chain.part area =
    layout-at c.area-layout.result c.layout.result.now chain.part area c.area-layout.ensures.layout
    c.layout.ensures in
    let is : area_by chain.areas chain.ends place ≡ Some area =
    area-at chain c.as_slice.result.now place area c.as_slice.ensures
    c.area_of-area.ensures.area in
    let all : PartNo → Lengths = g.K.Kept.kept c.args.kept.now in
    subst (λ (one : Keyed). KeepsRoom one (all (area_part one)) a) (sym layout)
    (rooms-of-area chain.part a c.requires.on (g.met.B.Blocks.cur_may c.args.blocks.now told)
    (all (part_no (KeyedShape chain.part))) (c.requires.stands told) (c.requires.rooms told) area
    (area-inside chain a.cur (c.requires.knows told).blocks.0 place area is))

pub returns-clause-answer : goal.returns-clause-answer
returns-clause-answer g c told =
    let chain = c.args.areas.now in
    let a = g.B.Blocks.seen c.args.blocks.now in
    let place = c.args.place.now in
    let n = c.args.longest in
    let area : ℕ = c.area_of-area.result in
    let layout : c.area-layout.result ≡ area_of chain.part area =
    layout-at c.area-layout.result c.layout.result.now chain.part area c.area-layout.ensures.layout
    c.layout.ensures in
    let is : area_by chain.areas chain.ends place ≡ Some area =
    area-at chain c.as_slice.result.now place area c.as_slice.ensures
    c.area_of-area.ensures.area in
    let all : PartNo → Lengths = g.K.Kept.kept c.args.kept.now in
    let kept : Lengths = all (part_no (KeyedShape chain.part)) in
    let split : Option AreaSplit = c.args.splits.now.split in
    let move : Option MoveNow = c.args.splits.now.move in
    let here : Option SplitNow = split_in split area in
    let none : move_stage move area ≡ None = sym c.stage_of.ensures ∙ c.in_default.is in
    IfOk-weaker c.room_at.result _ _
    (λ room says.
    subst (λ (one : Keyed). room ≡ area_room one here c.stage.result a.cur c.args.free
    (all (area_part one)) place n) layout (says here c.under_way_in.ensures)
    ∙ room-there chain.part split move a.cur c.args.free kept place n area
    (area-known chain a.cur (c.requires.knows told).blocks.0 place area is) c.stage.result
    c.stage.ensures none)
    (c.room_at.ensures.answer told)

pub returns-clause-mine : goal.returns-clause-mine
returns-clause-mine g c =
    let chain = c.args.areas.now in
    let tells = g.B.Blocks.tells in
    let a = g.B.Blocks.seen c.args.blocks.now in
    let place = c.args.place.now in
    let area : ℕ = c.area_of-area.result in
    let layout : c.area-layout.result ≡ area_of chain.part area =
    layout-at c.area-layout.result c.layout.result.now chain.part area c.area-layout.ensures.layout
    c.layout.ensures in
    let is : area_by chain.areas chain.ends place ≡ Some area =
    area-at chain c.as_slice.result.now place area c.as_slice.ensures
    c.area_of-area.ensures.area in
    let old = mets c.args.slots.now in
    let new = mets c.room_at.new.slots in
    leaves-mine chain tells a.cur place area is old new
    (subst (λ (one : Keyed). LeavesMet one tells a.cur place old new) layout
    c.room_at.ensures.leaves)
    c.requires.mine

pub returns-clause-knows : goal.returns-clause-knows
returns-clause-knows g c told =
    let chain = c.args.areas.now in
    let tells = g.B.Blocks.tells in
    let a = g.B.Blocks.seen c.args.blocks.now in
    let b = g.B.Blocks.seen c.room_at.new.blocks in
    let place = c.args.place.now in
    let area : ℕ = c.area_of-area.result in
    let layout : c.area-layout.result ≡ area_of chain.part area =
    layout-at c.area-layout.result c.layout.result.now chain.part area c.area-layout.ensures.layout
    c.layout.ensures in
    let is : area_by chain.areas chain.ends place ≡ Some area =
    area-at chain c.as_slice.result.now place area c.as_slice.ensures
    c.area_of-area.ensures.area in
    let old = mets c.args.slots.now in
    let new = mets c.room_at.new.slots in
    let knows = c.requires.knows told in
    knows-still chain tells told a b c.room_at.ensures.keeps c.requires.on (c.requires.stands told)
    c.args.splits.now.split c.args.splits.now.move old new knows
    (leaves-met chain.part tells a.cur place area told
    (area-known chain a.cur knows.blocks.0 place area is) old new
    (subst (λ (one : Keyed). LeavesMet one tells a.cur place old new) layout
    c.room_at.ensures.leaves)
    knows.blocks.1)

pub returns-clause-meets : goal.returns-clause-meets
returns-clause-meets g c =
    on_ok_weaker c.room_at.result (λ is. is.meets) c.room_at.ensures.meets

-- ---- a place of an area that is being split waits for it

pub meet-requires-clause-head : goal.meet-requires-clause-head
meet-requires-clause-head g c told =
    let chain = c.args.areas.now in
    let a = g.B.Blocks.seen c.args.blocks.now in
    let place = c.args.place.now in
    let area : ℕ = c.area_of-area.result in
    let layout : c.area-layout.result ≡ area_of chain.part area =
    layout-at c.area-layout.result c.layout.result.now chain.part area c.area-layout.ensures.layout
    c.layout.ensures in
    let is : area_by chain.areas chain.ends place ≡ Some area =
    area-at chain c.as_slice.result.now place area c.as_slice.ensures
    c.area_of-area.ensures.area in
    let comes : ComesTo chain.part a.cur place area =
    area-comes chain a.cur (c.requires.knows told).blocks.0 place area is
    (c.requires.stands told) in
    subst (λ (one : Keyed). IsHead one (block_at a.cur one.head)) (sym layout)
    comes.linked.stands.head

pub meet-requires-clause-entry : goal.meet-requires-clause-entry
meet-requires-clause-entry g c told =
    let chain = c.args.areas.now in
    let a = g.B.Blocks.seen c.args.blocks.now in
    let place = c.args.place.now in
    let at : List ℕ = c.as_slice-in-Some.result.now in
    let same : at ≡ place = c.as_slice-in-Some.ensures in
    let area : ℕ = c.area_of-area.result in
    let layout : c.area-layout.result ≡ area_of chain.part area =
    layout-at c.area-layout.result c.layout.result.now chain.part area c.area-layout.ensures.layout
    c.layout.ensures in
    let is : area_by chain.areas chain.ends place ≡ Some area =
    area-at chain c.as_slice.result.now place area c.as_slice.ensures
    c.area_of-area.ensures.area in
    let comes : ComesTo chain.part a.cur place area =
    area-comes chain a.cur (c.requires.knows told).blocks.0 place area is
    (c.requires.stands told) in
    subst (λ (key : List ℕ). HasEntry c.area-layout.result a.cur key) (sym same)
    (subst (λ (one : Keyed). HasEntry one a.cur place) (sym layout) (λ bytes. comes.entry))

pub meet-requires-clause-met : goal.meet-requires-clause-met
meet-requires-clause-met g c told =
    let chain = c.args.areas.now in
    let a = g.B.Blocks.seen c.args.blocks.now in
    let place = c.args.place.now in
    let at : List ℕ = c.as_slice-in-Some.result.now in
    let same : at ≡ place = c.as_slice-in-Some.ensures in
    let area : ℕ = c.area_of-area.result in
    let layout : c.area-layout.result ≡ area_of chain.part area =
    layout-at c.area-layout.result c.layout.result.now chain.part area c.area-layout.ensures.layout
    c.layout.ensures in
    let is : area_by chain.areas chain.ends place ≡ Some area =
    area-at chain c.as_slice.result.now place area c.as_slice.ensures
    c.area_of-area.ensures.area in
    let known = (c.requires.knows told).blocks in
    let old = mets c.args.slots.now in
    subst (λ (key : List ℕ). All (IsMetAt c.area-layout.result a.cur key) old) (sym same)
    (subst (λ (one : Keyed). All (IsMetAt one a.cur place) old) (sym layout)
    (met-at chain.part a.cur place area (area-known chain a.cur known.0 place area is) old known.1))

pub returns-in_err-meet-clause-mine : goal.returns-in_err-meet-clause-mine
returns-in_err-meet-clause-mine g c =
    let chain = c.args.areas.now in
    let tells = g.B.Blocks.tells in
    let a = g.B.Blocks.seen c.args.blocks.now in
    let place = c.args.place.now in
    let at : List ℕ = c.as_slice-in-Some.result.now in
    let same : at ≡ place = c.as_slice-in-Some.ensures in
    let area : ℕ = c.area_of-area.result in
    let layout : c.area-layout.result ≡ area_of chain.part area =
    layout-at c.area-layout.result c.layout.result.now chain.part area c.area-layout.ensures.layout
    c.layout.ensures in
    let is : area_by chain.areas chain.ends place ≡ Some area =
    area-at chain c.as_slice.result.now place area c.as_slice.ensures
    c.area_of-area.ensures.area in
    let old = mets c.args.slots.now in
    let new = mets c.meet.new.slots in
    leaves-mine chain tells a.cur place area is old new
    (subst (λ (key : List ℕ). LeavesMet (area_of chain.part area) tells a.cur key old new) same
    (subst (λ (one : Keyed). LeavesMet one tells a.cur at old new) layout c.meet.ensures.leaves))
    c.requires.mine

pub returns-in_err-meet-clause-knows : goal.returns-in_err-meet-clause-knows
returns-in_err-meet-clause-knows g c told =
    let chain = c.args.areas.now in
    let tells = g.B.Blocks.tells in
    let a = g.B.Blocks.seen c.args.blocks.now in
    let b = g.B.Blocks.seen c.meet.new.blocks in
    let place = c.args.place.now in
    let at : List ℕ = c.as_slice-in-Some.result.now in
    let same : at ≡ place = c.as_slice-in-Some.ensures in
    let area : ℕ = c.area_of-area.result in
    let layout : c.area-layout.result ≡ area_of chain.part area =
    layout-at c.area-layout.result c.layout.result.now chain.part area c.area-layout.ensures.layout
    c.layout.ensures in
    let is : area_by chain.areas chain.ends place ≡ Some area =
    area-at chain c.as_slice.result.now place area c.as_slice.ensures
    c.area_of-area.ensures.area in
    let old = mets c.args.slots.now in
    let new = mets c.meet.new.slots in
    let knows = c.requires.knows told in
    knows-still chain tells told a b c.meet.ensures.keeps c.requires.on (c.requires.stands told)
    c.args.splits.now.split c.args.splits.now.move old new knows
    (leaves-met chain.part tells a.cur place area told
    (area-known chain a.cur knows.blocks.0 place area is) old new
    (subst (λ (key : List ℕ). LeavesMet (area_of chain.part area) tells a.cur key old new) same
    (subst (λ (one : Keyed). LeavesMet one tells a.cur at old new) layout c.meet.ensures.leaves))
    knows.blocks.1)

pub returns-in-Some-clause-answer : goal.returns-in-Some-clause-answer
returns-in-Some-clause-answer g c told =
    let chain = c.args.areas.now in
    let a = g.B.Blocks.seen c.args.blocks.now in
    let place = c.args.place.now in
    let n = c.args.longest in
    let area : ℕ = c.area_of-area.result in
    let layout : c.area-layout.result ≡ area_of chain.part area =
    layout-at c.area-layout.result c.layout.result.now chain.part area c.area-layout.ensures.layout
    c.layout.ensures in
    let is : area_by chain.areas chain.ends place ≡ Some area =
    area-at chain c.as_slice.result.now place area c.as_slice.ensures
    c.area_of-area.ensures.area in
    let all : PartNo → Lengths = g.K.Kept.kept c.args.kept.now in
    let kept : Lengths = all (part_no (KeyedShape chain.part)) in
    let split : Option AreaSplit = c.args.splits.now.split in
    let move : Option MoveNow = c.args.splits.now.move in
    room-waits chain.part split move a.cur c.args.free kept place n area
    (area-known chain a.cur (c.requires.knows told).blocks.0 place area is) c.in-Some.stage
    (sym c.stage_of.ensures ∙ c.in-Some.is)

pub returns-in-Some-clause-mine : goal.returns-in-Some-clause-mine
returns-in-Some-clause-mine g c =
    let chain = c.args.areas.now in
    let tells = g.B.Blocks.tells in
    let a = g.B.Blocks.seen c.args.blocks.now in
    let place = c.args.place.now in
    let at : List ℕ = c.as_slice-in-Some.result.now in
    let same : at ≡ place = c.as_slice-in-Some.ensures in
    let area : ℕ = c.area_of-area.result in
    let layout : c.area-layout.result ≡ area_of chain.part area =
    layout-at c.area-layout.result c.layout.result.now chain.part area c.area-layout.ensures.layout
    c.layout.ensures in
    let is : area_by chain.areas chain.ends place ≡ Some area =
    area-at chain c.as_slice.result.now place area c.as_slice.ensures
    c.area_of-area.ensures.area in
    let old = mets c.args.slots.now in
    let new = mets c.meet.new.slots in
    leaves-mine chain tells a.cur place area is old new
    (subst (λ (key : List ℕ). LeavesMet (area_of chain.part area) tells a.cur key old new) same
    (subst (λ (one : Keyed). LeavesMet one tells a.cur at old new) layout c.meet.ensures.leaves))
    c.requires.mine

pub returns-in-Some-clause-knows : goal.returns-in-Some-clause-knows
returns-in-Some-clause-knows g c told =
    let chain = c.args.areas.now in
    let tells = g.B.Blocks.tells in
    let a = g.B.Blocks.seen c.args.blocks.now in
    let b = g.B.Blocks.seen c.meet.new.blocks in
    let place = c.args.place.now in
    let at : List ℕ = c.as_slice-in-Some.result.now in
    let same : at ≡ place = c.as_slice-in-Some.ensures in
    let area : ℕ = c.area_of-area.result in
    let layout : c.area-layout.result ≡ area_of chain.part area =
    layout-at c.area-layout.result c.layout.result.now chain.part area c.area-layout.ensures.layout
    c.layout.ensures in
    let is : area_by chain.areas chain.ends place ≡ Some area =
    area-at chain c.as_slice.result.now place area c.as_slice.ensures
    c.area_of-area.ensures.area in
    let old = mets c.args.slots.now in
    let new = mets c.meet.new.slots in
    let knows = c.requires.knows told in
    knows-still chain tells told a b c.meet.ensures.keeps c.requires.on (c.requires.stands told)
    c.args.splits.now.split c.args.splits.now.move old new knows
    (leaves-met chain.part tells a.cur place area told
    (area-known chain a.cur knows.blocks.0 place area is) old new
    (subst (λ (key : List ℕ). LeavesMet (area_of chain.part area) tells a.cur key old new) same
    (subst (λ (one : Keyed). LeavesMet one tells a.cur at old new) layout c.meet.ensures.leaves))
    knows.blocks.1)

pub returns-in-Some-clause-meets : goal.returns-in-Some-clause-meets
returns-in-Some-clause-meets g c =
    subst (λ (key : List ℕ). MeetsOne key c.args.slots.now c.meet.new.slots)
    c.as_slice-in-Some.ensures c.in_ok-meet.ensures.meets.meets
