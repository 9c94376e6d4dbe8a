use Rattle.std.proofs.Common.{◌≡◌, ◌∷◌, rules}
use Rattle.vr_ci.specs.Interval as ci
use Rattle.vr_keyed.specs.Slots.{met_in}
use Rattle.vr_keyed.proofs.Adding.{test-false}
use Rattle.vr_keyed.proofs.Nexting.{looking-passes}
use Rattle.vr_keyed.proofs.next.first_key.Goals as goal

pub loop-i-preserved : goal.loop-i-preserved
loop-i-preserved c = λ kept.
    let live = c.in_ok-bytes.field-0-1 in
    let item : ci.Item = record { bytes = c.in_ok-bytes.bytes.now; live = live } in
    let cut : c.loop-i.records ≡ item ∷ c.next.new.self = search rules in
    looking-passes c.args.layout.now (met_in c.args.slot.now).range c.args.from
    c.args.view.now.items c.loop-i.records c.next.new.self c.loop-i.i item cut
    (λ is. test-false c.is_one.result _ c.is_one.ensures c.if-is_one.false is.valid.least)
    (c.loop-i.invariant kept)
