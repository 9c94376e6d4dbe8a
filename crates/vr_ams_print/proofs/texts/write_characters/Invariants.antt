use Rattle.std.proofs.Common.{◌≡◌, ◌++◌, take}
use Rattle.vr_ams_print.specs.Texts.{characters}
use Rattle.vr_ams_print.proofs.texts.write_characters.Given as goal

-- the bytes so far are written
abbrev pub invariant-loop-byte : goal.invariant-loop-byte
invariant-loop-byte l = l.out ≡ l.fn.out ++ characters (take l.byte-index l.bytes)
