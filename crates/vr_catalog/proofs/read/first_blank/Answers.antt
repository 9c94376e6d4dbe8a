use Rattle.std.proofs.Common.{length, sym, arith}
use Rattle.std.specs.Prelude.{◌==◌}
use Rattle.std.proofs.lemmas.List.Sums.{position_or_len_is}
use Rattle.vr_catalog.proofs.read.first_blank.Goals as goal

pub returns : goal.returns
returns c =
    sym (position_or_len_is (λ byte. byte == 32) c.args.field.now (length c.args.field.now) 0
    (omega arith)
    (λ i below. c.loop-at.invariant i (omega (arith, below)))
    (λ less. absurd (omega (arith, less))))
