use Rattle.std.proofs.Common.{◌≡◌, ◌+◌, length, ap, sym, ◌∙◌, arith}
use Rattle.vr_log.specs.declared.record.LogRecord.{LogRecord}
use Rattle.vr_log.specs.Records.{record_bytes, old_bytes}
use Rattle.vr_log.proofs.Lives.{length-before, length-ended}
use Rattle.vr_log.proofs.writing.record_length.Goals as goal

pub returns-in-Before-clause-value : goal.returns-in-Before-clause-value
returns-in-Before-clause-value c =
    let b = c.in-Before in
    let is : length (record_bytes c.args.rec.now) ≡ 15 + length b.place + length (old_bytes b.old) =
    ap (λ (r : LogRecord). length (record_bytes r)) b.is
    ∙ length-before b.unit b.part b.place b.old in
    omega (arith, is, c.old_length.ensures.value, ap length c.as_slice-place.ensures)

pub returns-in-End-clause-value : goal.returns-in-End-clause-value
returns-in-End-clause-value c =
    sym (ap (λ (r : LogRecord). length (record_bytes r)) c.in-End.is
    ∙ length-ended c.in-End.unit c.in-End.kind)
