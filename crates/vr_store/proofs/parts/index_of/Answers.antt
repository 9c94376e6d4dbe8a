use Rattle.std.proofs.Common.{◌==◌, arith, sym}
use Rattle.std.proofs.lemmas.Bool.Decides.{Decides-eqb}
use Rattle.vr_store.proofs.Positions.{position-found, position-none}
use Rattle.vr_store.specs.declared.parts.Laid.{Laid}
use Rattle.vr_store.proofs.parts.index_of.Goals as goal

pub returns-then-laid-number : goal.returns-then-laid-number
returns-then-laid-number g c =
    position-found (λ (laid : Laid g.row.P.Denot). laid.number.0 == c.args.number.0)
    c.args.parts.now c.loop-at.at c.index-parts-at.result c.loop-at-test.true
    (λ k less. c.loop-at.invariant k c.index-parts-at.result less)
    (rw (sym c.index-parts-at.is) ((Decides-eqb _ _).1 c.if-laid-number.true))

pub returns : goal.returns
returns g c = position-none (λ (laid : Laid g.row.P.Denot). laid.number.0 == c.args.number.0)
    c.args.parts.now
    (λ k d less. c.loop-at.invariant k d (omega (arith, less, c.loop-at-test.false)))
