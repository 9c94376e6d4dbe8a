use Rattle.std.proofs.Common.{sym, ◌∙◌, arith}
use Rattle.vr_chained.proofs.Numbers.{start-bytes}
use Rattle.vr_chained.proofs.number.start_number.Goals as goal

pub returns : goal.returns
returns c =
    omega (
      arith,
      c.from_be_bytes.ensures,
      c.byte_at.ensures,
      c.byte_at-2.ensures,
      c.byte_at-3.ensures,
      c.byte_at-4.ensures,
    ) ∙ sym (start-bytes c.args.bytes.now)
