use Rattle.std.proofs.Common.{◌≡◌, ◌<◌, [], ◌∷◌, arith, rules, sym, ◌∙◌}
use Rattle.vr_ci.specs.Interval as ci
use Rattle.vr_space.specs.Keyed.{items_of}
use Rattle.vr_space.specs.Slots.{slots_of}
use Rattle.vr_slots.proofs.ReadingSlots.{drop-none, passing-ends, passing-finds, passing-more}
use Rattle.vr_slots.proofs.ReadingSlots.{slots-items}
use Rattle.vr_slots.proofs.reading.first_live.Goals as goal

pub loop-slot-init : goal.loop-slot-init
loop-slot-init c = record {
  left_is = c.iter-slots.ensures ∙ c.in-Some.ensures.items;
  none = λ other least below. absurd (omega (arith, below));
}

pub returns-in_default-next-clause-none : goal.returns-in_default-next-clause-none
returns-in_default-next-clause-none c = λ slots none other least.
    let gone : c.loop-slot.slots ≡ [] = search rules in
    passing-ends c.args.block.now c.args.from c.loop-slot.slots c.loop-slot.slot
    (drop-none (items_of c.args.block.now) c.loop-slot.slot
    (sym c.loop-slot.invariant.left_is ∙ gone)) c.loop-slot.invariant other least

pub returns-then-is_found-clause-some : goal.returns-then-is_found-clause-some
returns-then-is_found-clause-some c = λ slots.
    let item : ci.Item = record {
      bytes = c.in-Some-next.field-0-0.now;
      live = c.in-Some-next.live;
    } in
    let cut : c.loop-slot.slots ≡ item ∷ c.next.new.self = search rules in
    let below : c.loop-slot.slot < slots_of c.args.layout.now =
    omega (arith, c.slots-slot-end.ensures.count) in
    passing-finds c.args.layout.now c.args.block.now c.args.from c.loop-slot.slots c.next.new.self
    c.loop-slot.slot c.in-Some-next.field-0-0.now c.in-Some-next.live c.loop-slot.invariant cut
    c.is_found.result c.is_found.ensures c.if-is_found.true below

pub loop-slot-preserved : goal.loop-slot-preserved
loop-slot-preserved c =
    let item : ci.Item = record {
      bytes = c.in-Some-next.field-0-0.now;
      live = c.in-Some-next.live;
    } in
    let cut : c.loop-slot.slots ≡ item ∷ c.next.new.self = search rules in
    passing-more c.args.layout.now c.args.block.now c.args.from c.loop-slot.slots c.next.new.self
    c.loop-slot.slot c.in-Some-next.field-0-0.now c.in-Some-next.live c.loop-slot.invariant cut
    c.is_found.result c.is_found.ensures c.if-is_found.false

pub returns-clause-none : goal.returns-clause-none
returns-clause-none c = λ slots none other least.
    let count = (slots-items c.args.layout.now c.args.block.now slots).count in
    passing-ends c.args.block.now c.args.from c.loop-slot.slots c.loop-slot.slot
    (omega (arith, count, c.slots-slot-end.ensures.count)) c.loop-slot.invariant other least
