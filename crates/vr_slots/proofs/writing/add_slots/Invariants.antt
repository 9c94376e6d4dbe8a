use Rattle.std.proofs.Common.{◌≡◌}
use Rattle.vr_ci.specs.Writer.{buffer_of, form_of, size_of}
use Rattle.vr_space.specs.Part.{given}
use Rattle.vr_slots.proofs.WritingSlots.{IsMaking}
use Rattle.vr_slots.proofs.writing.add_slots.Given as goal

abbrev pub invariant-loop-at : goal.invariant-loop-at
invariant-loop-at l = record {
  form : form_of l.writer ≡ form_of l.fn.writer;
  size : size_of l.writer ≡ size_of l.fn.writer;
  buffer : buffer_of l.writer ≡ buffer_of l.fn.writer;
  making : IsMaking l.layout l.slot (given l.bytes) l.view.items l.slots l.at l.writer;
}
