use Rattle.std.proofs.Common.{◌≡◌, ◌++◌, take}
use Rattle.vr_text.specs.Literal.{doubled}
use Rattle.vr_text.proofs.spelling.write_doubled.Given as goal

-- the bytes so far are written
abbrev pub invariant-loop-byte : goal.invariant-loop-byte
invariant-loop-byte l = l.out ≡ l.fn.out ++ doubled (take l.byte-index l.bytes)
