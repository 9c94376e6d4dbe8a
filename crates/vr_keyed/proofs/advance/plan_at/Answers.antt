use Rattle.std.proofs.Common.{◌+◌, ◌≤◌, ℕ, List, All, sym, ap, subst, ◌∙◌, arith}
use Rattle.vr_types.specs.Image.{Image, block_at}
use Rattle.vr_types.proofs.CallerLemmas.{keeps-then}
use Rattle.vr_space.specs.AreaCalls.{area_part}
use Rattle.vr_space.specs.Keyed.{Keyed}
use Rattle.vr_space.specs.Split.{free_interval}
use Rattle.vr_keyed.specs.Look.{HasEntry}
use Rattle.vr_keyed.specs.Planned.{LacksRoom}
use Rattle.vr_keyed.specs.Slots.{IsInside, IsMetAt, LeavesMet, met_in, mets}
use Rattle.vr_keyed.proofs.Advancing.{lacks-room, due-new}
use Rattle.vr_keyed.proofs.advance.plan_at.Goals as goal

pub meet-requires-clause-entry : goal.meet-requires-clause-entry
meet-requires-clause-entry g c told =
    subst (λ (q : List ℕ). HasEntry c.args.layout.now (g.B.Blocks.seen c.args.blocks.now).cur q)
    (sym c.as_slice.ensures) (c.requires.entry told)

pub meet-requires-clause-inside : goal.meet-requires-clause-inside
meet-requires-clause-inside g c =
    subst (λ (q : List ℕ). All (IsInside c.args.layout.now q) (mets c.args.slots.now))
    (sym c.as_slice.ensures) c.requires.inside

pub meet-requires-clause-met : goal.meet-requires-clause-met
meet-requires-clause-met g c told =
    subst (λ (q : List ℕ).
    All (IsMetAt c.args.layout.now (g.B.Blocks.seen c.args.blocks.now).cur q)
    (mets c.args.slots.now))
    (sym c.as_slice.ensures) (c.requires.met told)

pub returns-in_err-meet-clause-leaves : goal.returns-in_err-meet-clause-leaves
returns-in_err-meet-clause-leaves g c =
    subst (λ (q : List ℕ).
    LeavesMet c.args.layout.now g.B.Blocks.tells (g.B.Blocks.seen c.args.blocks.now).cur q
    (mets c.args.slots.now) (mets c.meet.new.slots))
    c.as_slice.ensures c.meet.ensures.leaves

pub plan_split-requires-clause-lacks : goal.plan_split-requires-clause-lacks
plan_split-requires-clause-lacks g c told =
    let part = c.args.layout.now in
    let a = g.B.Blocks.seen c.args.blocks.now in
    let kept = g.K.Kept.kept c.args.kept.now (area_part part) in
    let slots = c.meet.new.slots in
    let known = c.in_ok-meet.ensures.meets.newly.is_met told in
    let most : part.most + 7 ≤ part.size =
    subst (λ (k : Keyed). k.most + 7 ≤ k.size) c.layout.view_is c.layout.invariant.0 in
    subst (λ (image : Image). LacksRoom part image kept (met_in slots.first) c.args.place.now
    c.args.longest) (sym (c.meet.ensures.keeps.content told))
    (lacks-room part a (g.met.B.Blocks.cur_may c.args.blocks.now told) (c.requires.rests told)
    kept (c.requires.room told) (met_in slots.first) known c.args.place.now
    (c.in_ok-meet.ensures.meets.newly.place_is ∙ c.as_slice.ensures) c.args.longest
    (c.requires.due told) c.requires.place (omega (arith, most, c.requires.longest)))

pub plan_split-requires-clause-free : goal.plan_split-requires-clause-free
plan_split-requires-clause-free g c told =
    let part = c.args.layout.now in
    let a = g.B.Blocks.seen c.args.blocks.now in
    let kept = g.K.Kept.kept c.args.kept.now (area_part part) in
    let slots = c.meet.new.slots in
    let known = c.in_ok-meet.ensures.meets.newly.is_met told in
    let new = due-new part a (g.met.B.Blocks.cur_may c.args.blocks.now told)
    (c.requires.rests told) kept (c.requires.room told) (met_in slots.first) known
    c.args.place.now (c.in_ok-meet.ensures.meets.newly.place_is ∙ c.as_slice.ensures) c.args.longest
    (c.requires.due told) in (
      new.into,
      ap (λ (image : Image). free_interval part (block_at image part.head))
          (c.meet.ensures.keeps.content told) ∙ new.free_is,
    )

pub returns-clause-keeps : goal.returns-clause-keeps
returns-clause-keeps g c =
    keeps-then g.B.Blocks.tells (g.B.Blocks.seen c.args.blocks.now)
    (g.B.Blocks.seen c.meet.new.blocks) (g.B.Blocks.seen c.plan_split.new.blocks)
    c.meet.ensures.keeps c.plan_split.ensures.keeps

pub returns-clause-leaves : goal.returns-clause-leaves
returns-clause-leaves g c =
    subst (λ (q : List ℕ).
    LeavesMet c.args.layout.now g.B.Blocks.tells (g.B.Blocks.seen c.args.blocks.now).cur q
    (mets c.args.slots.now) (mets c.meet.new.slots))
    c.as_slice.ensures c.meet.ensures.leaves
