use Rattle.std.proofs.Common.{◌≡◌}
use Rattle.vr_ci.specs.Writer.{buffer_of, form_of, size_of}
use Rattle.vr_slots.proofs.WritingSlots.{IsEmptying}
use Rattle.vr_slots.proofs.writing.add_empty.Given as goal

abbrev pub invariant-loop-i : goal.invariant-loop-i
invariant-loop-i l = record {
  form : form_of l.writer ≡ form_of l.fn.writer;
  size : size_of l.writer ≡ size_of l.fn.writer;
  buffer : buffer_of l.writer ≡ buffer_of l.fn.writer;
  emptying : IsEmptying l.layout l.i l.writer;
}
