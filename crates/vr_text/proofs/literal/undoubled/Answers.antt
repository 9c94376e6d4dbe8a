use Rattle.std.proofs.Common.{◌++◌, List, ℕ, append-nil, false, ap, sym, ◌∙◌}
use Rattle.vr_text.proofs.Quotes.{undoubled_from, undoubled_from-end, undoubled_from-doubled}
use Rattle.vr_text.proofs.literal.undoubled.Goals as goal

pub returns : goal.returns
returns c bytes h =
    sym (append-nil c.loop-byte.bytes)
    ∙ ap (λ (rest : List ℕ). c.loop-byte.bytes ++ rest)
    (sym (undoubled_from-end c.loop-byte.halved c.args.quoted.now c.loop-byte.byte-index
    c.loop-byte-test.false))
    ∙ c.loop-byte.invariant ∙ ap (undoubled_from false) h ∙ undoubled_from-doubled bytes
