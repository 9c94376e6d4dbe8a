use Rattle.std.proofs.Common.{◌∙◌, arith}
use Rattle.vr_chained.proofs.Numbers.{number-read, place-length, place-of}
use Rattle.vr_chained.proofs.number.number_at.Goals as goal

pub returns-then-place-ne4-clause-none : goal.returns-then-place-ne4-clause-none
returns-then-place-ne4-clause-none c none is =
    c.if-place-ne4.true (place-length c.args.layout.now c.args.place.now is)

pub returns-then-number-start-clause-none : goal.returns-then-number-start-clause-none
returns-then-number-start-clause-none c none is =
    absurd (omega (
      arith,
      is.some,
      c.if-number-start.true,
      c.start.ensures,
      c.four_at-number.ensures,
      number-read c.args.place.now c.if-place-ne4.false,
    ))

pub returns-else-number-start-clause-some : goal.returns-else-number-start-clause-some
returns-else-number-start-clause-some c =
    let number = c.four_at-number.ensures ∙ number-read c.args.place.now c.if-place-ne4.false in (
      place-of c.args.layout.now c.args.place.now c.if-place-ne4.false
          (λ i. omega (arith, c.type_inv.place i))
          (omega (arith, c.if-number-start.false, c.start.ensures, number)),
      number,
    )
