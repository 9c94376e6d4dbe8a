use Rattle.std.proofs.Common.{sym, ◌∙◌}
use Rattle.vr_text.proofs.CallerLemmas.{IfErr-cause_of_digits}
use Rattle.vr_text.proofs.literal.read_literal.Goals as goal

pub returns-in-Some-between-clause-fault : goal.returns-in-Some-between-clause-fault
returns-in-Some-between-clause-fault c =
    IfErr-cause_of_digits c.args.text.now c.in-Some-between.digits.now _
    (sym c.as_bytes-text.ensures.value ∙ c.in-Some-between.ensures) c.read_digits.ensures.fault
