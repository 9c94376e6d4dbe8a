use Rattle.std.proofs.Common.{refl}
use Rattle.vr_keyed.proofs.Meeting.{Brought, brought-had, brought-has, none-met}
use Rattle.vr_keyed.proofs.meet.recall.Goals as goal

pub returns-in_default-clause-none : goal.returns-in_default-clause-none
returns-in_default-clause-none c is = (
  refl,
  none-met c.args.slots.now c.args.place.now (c.is_first.ensures.none c.if-is_first.false)
      (c.find.ensures.none c.in_default.is),
)

pub returns-clause-kept : goal.returns-clause-kept
returns-clause-kept c =
    let found = c.in-Some.ensures.some in
    let is : Brought c.in-Some.i c.args.slots.now c.bring.new.self = record {
      there = found.0;
      first = c.bring.ensures.first;
      more = c.bring.ensures.more;
      filled = c.bring.ensures.filled;
    } in
    brought-has c.in-Some.i c.args.slots.now c.bring.new.self is found.1

pub returns-clause-among : goal.returns-clause-among
returns-clause-among c =
    let found = c.in-Some.ensures.some in
    let is : Brought c.in-Some.i c.args.slots.now c.bring.new.self = record {
      there = found.0;
      first = c.bring.ensures.first;
      more = c.bring.ensures.more;
      filled = c.bring.ensures.filled;
    } in
    brought-had c.in-Some.i c.args.slots.now c.bring.new.self is found.1
