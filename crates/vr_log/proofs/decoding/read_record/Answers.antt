use Rattle.std.proofs.Common.{arith}
use Rattle.std.proofs.lemmas.Grind.{common_steps}
use Rattle.vr_log.proofs.RecordBytes.{no-kind}
use Rattle.vr_log.proofs.decoding.read_record.Goals as goal

pub returns-in_default : goal.returns-in_default
returns-in_default c =
    no-kind c.args.bytes.now (grind (arith, common_steps))
    (λ kind. let h = c.in_default in grind (arith, common_steps))
