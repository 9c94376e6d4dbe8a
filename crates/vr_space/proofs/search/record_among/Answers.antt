use Rattle.std.proofs.Common.{◌≡◌, ◌∷◌, rules, sym, ◌∙◌, true≢false}
use Rattle.vr_ci.specs.Interval as ci
use Rattle.vr_space.proofs.Searching.{search-passes, search-finds}
use Rattle.vr_space.proofs.search.record_among.Goals as goal

pub returns-then-is_at : goal.returns-then-is_at
returns-then-is_at c = λ kept.
    let live = c.in_ok-record.field-0-1 in
    let item : ci.Item = record { bytes = c.in_ok-record.record.now; live = live } in
    let cut : c.loop-i.records ≡ item ∷ c.next.new.self = search rules in
    search-finds c.args.layout.now c.args.place.now c.args.view.now.items c.loop-i.records
    c.next.new.self c.loop-i.i item cut (search rules) (c.loop-i.invariant kept)

pub loop-i-preserved : goal.loop-i-preserved
loop-i-preserved c = λ kept.
    let live = c.in_ok-record.field-0-1 in
    let item : ci.Item = record { bytes = c.in_ok-record.record.now; live = live } in
    let cut : c.loop-i.records ≡ item ∷ c.next.new.self = search rules in
    search-passes c.args.layout.now c.args.place.now c.args.view.now.items c.loop-i.records
    c.next.new.self c.loop-i.i item cut
    (λ is here. true≢false (sym (c.is_at.ensures.1 (is.valid.least, here)) ∙ c.if-is_at.false))
    (c.loop-i.invariant kept)
