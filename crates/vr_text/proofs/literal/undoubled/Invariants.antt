use Rattle.std.proofs.Common.{◌≡◌, ◌++◌, false, drop}
use Rattle.vr_text.proofs.Quotes.{undoubled_from}
use Rattle.vr_text.proofs.literal.undoubled.Given as goal

-- the bytes so far and those of what is left are those of the whole
abbrev pub invariant-loop-byte : goal.invariant-loop-byte
invariant-loop-byte l = l.bytes ++ undoubled_from l.halved
    (drop l.byte-index l.quoted) ≡ undoubled_from false l.quoted
