use Rattle.std.proofs.Common.{◌*◌, take}
use Rattle.vr_text.specs.Literal.{SpellsBytes}
use Rattle.vr_text.proofs.literal.paired.Given as goal

-- the bytes so far are those of the digits so far
abbrev pub invariant-loop-at : goal.invariant-loop-at
invariant-loop-at l = SpellsBytes (take (2 * l.at) l.digits) l.bytes
