use Rattle.std.proofs.Common.{◌≡◌, false, drop}
use Rattle.vr_text.proofs.Quotes.{is_doubled_from}
use Rattle.vr_text.proofs.literal.is_doubled.Given as goal

-- what is left decides as the whole does
abbrev pub invariant-loop-byte : goal.invariant-loop-byte
invariant-loop-byte l = is_doubled_from l.halved
    (drop l.byte-index l.quoted) ≡ is_doubled_from false l.quoted
