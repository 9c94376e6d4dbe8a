use Rattle.std.proofs.Common.{◌≡◌}
use Rattle.vr_ci.specs.Writer.{buffer_of, form_of, size_of}
use Rattle.vr_space.specs.Part.{given}
use Rattle.vr_entries.proofs.Making.{IsMaking}
use Rattle.vr_entries.proofs.writing.add_entries.Given as goal

abbrev pub invariant-loop-item : goal.invariant-loop-item
invariant-loop-item l = record {
  form : form_of l.writer ≡ form_of l.fn.writer;
  size : size_of l.writer ≡ size_of l.fn.writer;
  buffer : buffer_of l.writer ≡ buffer_of l.fn.writer;
  making : IsMaking l.at (given l.bytes) l.view.items l.item-iterator l.from l.writer;
}
