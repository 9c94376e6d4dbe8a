use Rattle.std.proofs.Common.{arith, sym, ◌∙◌, ap}
use Rattle.vr_types.specs.Locks.{same_unit}
use Rattle.vr_store.proofs.Positions.{position-found, position-none}
use Rattle.vr_store.specs.declared.changed.UnitBlocks.{UnitBlocks}
use Rattle.vr_store.proofs.changed.place_of.Goals as goal

pub returns-then-is_unit : goal.returns-then-is_unit
returns-then-is_unit c =
    position-found (λ (by : UnitBlocks). same_unit c.args.unit by.unit)
    c.args.changed.now c.loop-at.at c.index-changed-at.result c.loop-at-test.true
    (λ k less. c.loop-at.invariant k c.index-changed-at.result less)
    (ap (λ (by : UnitBlocks). same_unit c.args.unit by.unit) (sym c.index-changed-at.is)
    ∙ sym c.is_unit.ensures ∙ c.if-is_unit.true)

pub returns : goal.returns
returns c = position-none (λ (by : UnitBlocks). same_unit c.args.unit by.unit)
    c.args.changed.now
    (λ k d less. c.loop-at.invariant k d (omega (arith, less, c.loop-at-test.false)))
