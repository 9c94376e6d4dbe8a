use Rattle.vr_text.specs.LiteralParts.{CauseInDigits}
use Rattle.vr_text.proofs.Digits.{spelled}
use Rattle.vr_text.proofs.CallerLemmas.{IfErr-memory}
use Rattle.vr_text.proofs.literal.read_digits.Goals as goal

pub returns-in_err-paired-clause-fault : goal.returns-in_err-paired-clause-fault
returns-in_err-paired-clause-fault c =
    let digits = c.in_default.ensures.none in
    IfErr-memory _ (CauseInDigits c.args.digits.now) c.from_residual.ensures.1
    (spelled c.args.digits.now digits.0 digits.1)
