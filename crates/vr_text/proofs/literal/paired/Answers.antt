use Rattle.std.proofs.Common.{◌+◌, ◌*◌, ◌<◌, length, subst, sym, arith}
use Rattle.vr_text.specs.Literal.{SpellsBytes}
use Rattle.vr_text.proofs.Digits.{SpellsBytes-pair}
use Rattle.vr_text.proofs.literal.paired.Goals as goal

pub loop-at-preserved : goal.loop-at-preserved
loop-at-preserved c =
    let within : 2 * c.loop-at.at + 1 < length c.args.digits.now = omega arith in
    subst (SpellsBytes _) (sym c.in_ok-push.ensures.ok)
    (SpellsBytes-pair c.args.digits.now c.loop-at.bytes c.loop-at.at _ within c.loop-at.invariant
    (c.requires.valid _ (omega arith)) (c.requires.valid _ within)
    (omega (arith, c.value_of.ensures, c.value_of-in-loop-at.ensures)))
