use Rattle.std.proofs.Common.{◌≡◌}
use Rattle.vr_ci_match.specs.declared.form.Form.TheVariants.{Plain}
use Rattle.vr_ci.specs.Writer.{form_of}
use Rattle.vr_base_cases.proofs.writers.single_bytes.Given as goal

abbrev pub invariant-loop-number : goal.invariant-loop-number
invariant-loop-number l = form_of l.writer ≡ Plain
