use Rattle.std.proofs.Common.{◌≡◌, ◌++◌, take}
use Rattle.vr_ams_print.specs.Texts.{digits}
use Rattle.vr_ams_print.proofs.texts.write_digits.Given as goal

-- the bytes so far are written
abbrev pub invariant-loop-byte : goal.invariant-loop-byte
invariant-loop-byte l = l.out ≡ l.fn.out ++ digits (take l.byte-index l.bytes)
