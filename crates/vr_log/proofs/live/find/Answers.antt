use Rattle.std.proofs.Common.{◌≡◌, ◌∙◌, sym, arith, true, subst}
use Rattle.std.proofs.lemmas.List.{get_or_default}
use Rattle.vr_types.specs.Locks.{same_unit}
use Rattle.vr_types.specs.declared.unit.Unit.{Unit as UnitOfRecovery}
use Rattle.vr_log.proofs.Lives.{without-at, without-none}
use Rattle.vr_log.proofs.live.find.Goals as goal

abbrev no_unit : UnitOfRecovery
no_unit = record { deck = 0; number = 0 }

pub returns-then-eq-clause-found : goal.returns-then-eq-clause-found
returns-then-eq-clause-found c =
    without-at c.args.unit c.args.units.now c.loop-i.i c.loop-i-test.true c.loop-i.invariant
    (subst (λ (u : UnitOfRecovery). same_unit c.args.unit u ≡ true)
    (get_or_default c.args.units.now c.loop-i.i no_unit c.args.unit c.loop-i-test.true)
    (sym c.eq.ensures ∙ c.if-eq.true))

pub returns-clause-none : goal.returns-clause-none
returns-clause-none c =
    without-none c.args.unit c.args.units.now
    (λ k below within. c.loop-i.invariant k (omega (arith, below, c.loop-i-test.false)) within)
