use Rattle.std.proofs.Common.{◌≡◌, length, take, drop}
use Rattle.vr_ci_match.specs.declared.form.Form.TheVariants.{Plain}
use Rattle.vr_ci.specs.Writer.{Holds, form_of, size_of, buffer_of}
use Rattle.vr_split.proofs.records.write_records.Given as goal

abbrev pub invariant-loop-i : goal.invariant-loop-i
invariant-loop-i l = record {
  holds : Holds l.writer (drop l.from (take l.i l.view.items));
  form : form_of l.writer ≡ Plain;
  size : size_of l.writer ≡ length l.fn.out;
  buffer : buffer_of l.writer ≡ buffer_of l.initial.writer;
}
