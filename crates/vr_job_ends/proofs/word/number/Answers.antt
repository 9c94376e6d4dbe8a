use Rattle.std.proofs.Common.{arith}
use Rattle.vr_job_ends.proofs.Numerals.{number_read}
use Rattle.vr_job_ends.proofs.word.number.Goals as goal

pub returns : goal.returns
returns c =
    number_read _ _ (omega (arith, c.if-word-gt-DIGIT_LIMIT.false)) c.number.ensures.value
    c.number.ensures.none
