use Rattle.std.proofs.Common.{◌≡◌}
use Rattle.vr_ci_match.specs.declared.form.Form.TheVariants.{Slots}
use Rattle.vr_ci.specs.Writer.{form_of, added_of, size_of}
use Rattle.vr_base_cases.proofs.writers.slots_of.Given as goal

abbrev pub invariant-loop-at : goal.invariant-loop-at
invariant-loop-at l = record {
  form : form_of l.writer ≡ Slots l.length;
  added : added_of l.writer ≡ l.at;
  size : size_of l.writer ≡ l.size;
}
