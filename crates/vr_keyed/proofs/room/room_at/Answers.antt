use Rattle.std.proofs.Common.{◌≡◌, List, Option, ℕ, All, sym, subst}
use Rattle.std.specs.Prelude.{IfOk}
use Rattle.vr_types.specs.Image.{Image}
use Rattle.vr_space.specs.AreaCalls.{area_part}
use Rattle.vr_types.proofs.CallerLemmas.{keeps-then}
use Rattle.vr_space.specs.Met.{IsMet}
use Rattle.vr_space.specs.Split.{SplitNow, area_room}
use Rattle.vr_space.specs.declared.room.Room.{Room}
use Rattle.vr_keyed.specs.Splits.{IsSplit}
use Rattle.vr_keyed.specs.Look.{AreaStands, HasEntry}
use Rattle.vr_keyed.specs.Slots.{IsInside, IsMetAt, LeavesMet, MeetsAt, met_in, mets}
use Rattle.vr_keyed.proofs.Adding.{on-ok-from}
use Rattle.vr_keyed.proofs.MetRoom.{met-kept}
use Rattle.vr_keyed.proofs.room.room_at.Goals as goal

pub meet-requires-clause-entry : goal.meet-requires-clause-entry
meet-requires-clause-entry g c told =
    subst (λ (q : List ℕ). HasEntry c.args.layout.now (g.B.Blocks.seen c.args.blocks.now).cur q)
    (sym c.as_slice.ensures) (c.requires.entry told)

pub meet-requires-clause-inside : goal.meet-requires-clause-inside
meet-requires-clause-inside g c =
    subst (λ (q : List ℕ). All (IsInside c.args.layout.now q) (mets c.args.slots.now))
    (sym c.as_slice.ensures) c.requires.inside

pub meet-requires-clause-met : goal.meet-requires-clause-met
meet-requires-clause-met g c told =
    subst (λ (q : List ℕ).
    All (IsMetAt c.args.layout.now (g.B.Blocks.seen c.args.blocks.now).cur q)
    (mets c.args.slots.now))
    (sym c.as_slice.ensures) (c.requires.met told)

pub returns-in_err-meet-clause-leaves : goal.returns-in_err-meet-clause-leaves
returns-in_err-meet-clause-leaves g c =
    subst (λ (q : List ℕ).
    LeavesMet c.args.layout.now g.B.Blocks.tells (g.B.Blocks.seen c.args.blocks.now).cur q
    (mets c.args.slots.now) (mets c.meet.new.slots))
    c.as_slice.ensures c.meet.ensures.leaves

pub room_met-requires-clause-stands : goal.room_met-requires-clause-stands
room_met-requires-clause-stands g c told =
    subst (AreaStands c.args.layout.now) (sym (c.meet.ensures.keeps.content told))
    (c.requires.stands told)

pub room_met-requires-clause-met : goal.room_met-requires-clause-met
room_met-requires-clause-met g c told =
    subst (λ (image : Image). IsMet c.args.layout.now image (met_in c.meet.new.slots.first))
    (sym (c.meet.ensures.keeps.content told)) (c.in_ok-meet.ensures.meets.newly.is_met told)

pub room_met-requires-clause-fits : goal.room_met-requires-clause-fits
room_met-requires-clause-fits g c told =
    let part = c.args.layout.now in
    let newly = c.in_ok-meet.ensures.meets.newly in
    met-kept part (g.K.Kept.kept c.args.kept.now (area_part part)) (met_in c.meet.new.slots.first)
    (g.B.Blocks.seen c.args.blocks.now) (newly.is_met told) c.requires.on newly.inside
    (g.met.B.Blocks.cur_may c.args.blocks.now told) (c.requires.rooms told)

pub returns-clause-meets : goal.returns-clause-meets
returns-clause-meets g c =
    on-ok-from c.room_met.result _
    (subst (λ (q : List ℕ).
    MeetsAt c.args.layout.now g.B.Blocks.tells (g.B.Blocks.seen c.args.blocks.now).cur q
    c.args.slots.now c.meet.new.slots)
    c.as_slice.ensures c.in_ok-meet.ensures.meets)

pub returns-clause-leaves : goal.returns-clause-leaves
returns-clause-leaves g c =
    subst (λ (q : List ℕ).
    LeavesMet c.args.layout.now g.B.Blocks.tells (g.B.Blocks.seen c.args.blocks.now).cur q
    (mets c.args.slots.now) (mets c.meet.new.slots))
    c.as_slice.ensures c.meet.ensures.leaves

pub returns-clause-answer : goal.returns-clause-answer
returns-clause-answer g c told =
    let part = c.args.layout.now in
    let kept = g.K.Kept.kept c.args.kept.now (area_part part) in
    subst (λ (image : Image). IfOk c.room_met.result (λ (room : Room). (now : Option SplitNow)
    → IsSplit now c.args.split → room ≡ area_room part now c.args.under_way image c.args.free kept
    c.args.place.now c.args.longest))
    (c.meet.ensures.keeps.content told) (c.room_met.ensures.answer told)

pub returns-clause-keeps : goal.returns-clause-keeps
returns-clause-keeps g c =
    keeps-then g.B.Blocks.tells (g.B.Blocks.seen c.args.blocks.now)
    (g.B.Blocks.seen c.meet.new.blocks) (g.B.Blocks.seen c.room_met.new.blocks)
    c.meet.ensures.keeps c.room_met.ensures.keeps
