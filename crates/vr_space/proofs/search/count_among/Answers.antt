use Rattle.std.proofs.Common.{◌≡◌, ◌∷◌, rules}
use Rattle.vr_ci.specs.Interval as ci
use Rattle.vr_space.proofs.Searching.{count-passes, count-stops, test-false}
use Rattle.vr_space.proofs.search.count_among.Goals as goal

pub returns-then-not-is_up_to : goal.returns-then-not-is_up_to
returns-then-not-is_up_to c = λ kept sorted.
    let item : ci.Item = record { bytes = c.in-Some.record.now; live = c.in-Some.field-0-1 } in
    let cut : c.loop-i.records ≡ item ∷ c.next.new.self = search rules in
    count-stops c.args.layout.now c.args.place.now c.args.view.now.items c.loop-i.records
    c.next.new.self c.loop-i.i item cut
    (λ is. test-false c.is_up_to.result _ c.is_up_to.ensures c.if-not-is_up_to.true
    is.valid.least) sorted (c.loop-i.invariant kept)

pub loop-i-preserved : goal.loop-i-preserved
loop-i-preserved c = λ kept.
    let item : ci.Item = record { bytes = c.in-Some.record.now; live = c.in-Some.field-0-1 } in
    let cut : c.loop-i.records ≡ item ∷ c.next.new.self = search rules in
    count-passes c.args.layout.now c.args.place.now c.args.view.now.items c.loop-i.records
    c.next.new.self c.loop-i.i item cut (search rules) (c.loop-i.invariant kept)
