use Rattle.std.proofs.Common.{refl, sym, true≢false}
use Rattle.vr_log.proofs.RecordBytes.{absent-wrong, absent-whole}
use Rattle.vr_log.proofs.decoding.absent.Goals as goal

pub returns-then-are_zeros : goal.returns-then-are_zeros
returns-then-are_zeros c =
    absent-whole c.args.bytes.now c.requires.long c.requires.first (c.if-are_zeros.ensures.0 refl)

pub returns-else-are_zeros : goal.returns-else-are_zeros
returns-else-are_zeros c =
    absent-wrong c.args.bytes.now c.requires.all c.requires.first
    (λ zeros. true≢false (sym (c.if-are_zeros.ensures.1 zeros)))
