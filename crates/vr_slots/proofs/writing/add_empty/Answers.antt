use Rattle.std.proofs.Common.{arith, refl, ◌∙◌}
use Rattle.vr_slots.proofs.WritingSlots.{emptying-room, emptying-starts}
use Rattle.vr_slots.proofs.writing.add_empty.Goals as goal

pub loop-i-init : goal.loop-i-init
loop-i-init c = record {
  form = refl;
  size = refl;
  buffer = refl;
  emptying = emptying-starts c.args.layout.now c.args.writer.now c.requires.empty;
}

pub add_slot-requires-clause-form : goal.add_slot-requires-clause-form
add_slot-requires-clause-form c = c.loop-i.invariant.form ∙ c.requires.form

pub add_slot-requires-clause-room : goal.add_slot-requires-clause-room
add_slot-requires-clause-room c =
    emptying-room c.args.layout.now c.loop-i.i c.loop-i.writer c.loop-i.invariant.emptying
    c.requires.some (omega (arith, c.slots-i-end.ensures.count))
    (c.loop-i.invariant.size ∙ c.requires.size)
