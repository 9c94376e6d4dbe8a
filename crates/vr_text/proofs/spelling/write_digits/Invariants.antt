use Rattle.std.proofs.Common.{◌≡◌, ◌++◌, take, codes, flat_map}
use Rattle.vr_text.specs.Literal.{digit_pair}
use Rattle.vr_text.proofs.spelling.write_digits.Given as goal

-- the bytes so far are written
abbrev pub invariant-loop-byte : goal.invariant-loop-byte
invariant-loop-byte l = l.out ≡ l.fn.out
    ++ (codes "X'" ++ flat_map digit_pair (take l.byte-index l.bytes))
