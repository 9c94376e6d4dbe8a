use Rattle.std.proofs.Common.{get_or, refl, arith}
use Rattle.vr_seqset.proofs.WritingLemmas.{one_number}
use Rattle.vr_seqset.proofs.spelling.put_numbers.Goals as goal

pub loop-i-preserved : goal.loop-i-preserved
loop-i-preserved c =
    one_number c.loop-i.out c.args.numbers.now c.to_be_bytes-bytes.result
    (get_or c.args.numbers.now c.loop-i.i 0) c.loop-i.i (omega arith)
    (omega arith) refl c.to_be_bytes-bytes.ensures c.loop-i.invariant
