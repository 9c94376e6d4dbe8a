use Rattle.std.proofs.Common.{◌≡◌}
use Rattle.vr_ci_match.specs.declared.form.Form.TheVariants.{Plain}
use Rattle.vr_ci.specs.Writer.{form_of}
use Rattle.vr_base_cases.proofs.writers.records.Given as goal

abbrev pub invariant-loop-word : goal.invariant-loop-word
invariant-loop-word l = form_of l.writer ≡ Plain
