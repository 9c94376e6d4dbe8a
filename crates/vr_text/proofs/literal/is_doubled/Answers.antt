use Rattle.std.proofs.Common.{sym, ◌∙◌}
use Rattle.vr_text.proofs.Quotes.{IsTrue-is_doubled, is_doubled_from-lone, is_doubled_from-end}
use Rattle.vr_text.proofs.literal.is_doubled.Goals as goal

pub returns-then-byte-ne-QUOTE : goal.returns-then-byte-ne-QUOTE
returns-then-byte-ne-QUOTE c =
    IsTrue-is_doubled _ _
    (sym (is_doubled_from-lone c.loop-byte.halved c.args.quoted.now c.loop-byte.byte-index
    c.loop-byte-test.true c.if-halved.true c.if-byte-ne-QUOTE.true) ∙ c.loop-byte.invariant)

pub returns : goal.returns
returns c =
    IsTrue-is_doubled _ _
    (sym (is_doubled_from-end c.loop-byte.halved c.args.quoted.now c.loop-byte.byte-index
    c.loop-byte-test.false) ∙ c.loop-byte.invariant)
