use Rattle.std.proofs.Common.{arith}
use Rattle.vr_event.proofs.NumberPlaces.{address-tested, length-tested, slot-tested}
use Rattle.vr_event.proofs.fitting.is_number.Goals as goal

pub returns-then-not-relative : goal.returns-then-not-relative
returns-then-not-relative c =
    address-tested c.args.relative c.args.place.now (λ i. omega (arith, c.type_inv.place i))
    c.if-place-eq4.true c.if-not-relative.true

pub returns-else-not-relative : goal.returns-else-not-relative
returns-else-not-relative c =
    slot-tested c.args.relative c.args.place.now (λ i. omega (arith, c.type_inv.place i))
    c.if-place-eq4.true c.four_at.result c.four_at.ensures c.if-not-relative.false

pub returns-else-place-eq4 : goal.returns-else-place-eq4
returns-else-place-eq4 c = length-tested c.args.relative c.args.place.now c.if-place-eq4.false
