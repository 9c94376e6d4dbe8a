use Rattle.std.proofs.Common.{◌≡◌, ◌∷◌, rules, ◌∙◌}
use Rattle.vr_ci.specs.Interval as ci
use Rattle.vr_space.specs.Lent.{range_lent}
use Rattle.vr_keyed.proofs.Gathering.{gather-full, gather-more, among-ascend}
use Rattle.vr_keyed.proofs.gather.add_records.Goals as goal

pub returns-then-not-add_record-clause-added : goal.returns-then-not-add_record-clause-added
returns-then-not-add_record-clause-added c kept sorted fits has =
    let item : ci.Item = record { bytes = c.in-Some.record.now; live = c.in-Some.field-0-1 } in
    let cut : c.loop.records ≡ item ∷ c.next.new.self = search rules in
    absurd (gather-full c.args.layout.now (range_lent c.args.range.now) c.args.view.now.items
    c.loop.records c.next.new.self c.loop.counter item c.args.weights.now c.loop.weights cut fits
    has c.loop.invariant.count c.loop.invariant.bytes (c.loop.invariant.gathering kept sorted)
    (λ is. c.if-not-add_record.ensures.added is.valid))

pub loop-preserved : goal.loop-preserved
loop-preserved c =
    let item : ci.Item = record { bytes = c.in-Some.record.now; live = c.in-Some.field-0-1 } in
    let cut : c.loop.records ≡ item ∷ c.next.new.self = search rules in
    record {
      gathering = λ kept sorted. gather-more c.args.layout.now (range_lent c.args.range.now)
          c.args.view.now.items c.loop.records c.next.new.self c.loop.weights.lengths
          c.loop.counter item c.add_record.new.weights.lengths cut
          (among-ascend c.args.layout.now (range_lent c.args.range.now) c.args.view.now.items
          sorted) (λ is. c.if-not-add_record.ensures.added is.valid)
          (c.loop.invariant.gathering kept sorted);
      count = c.add_record.ensures.count ∙ c.loop.invariant.count;
      bytes = c.add_record.ensures.bytes ∙ c.loop.invariant.bytes;
    }
