use Rattle.std.proofs.Common.{sym, ◌∙◌}
use Rattle.vr_space.specs.Lent.{range_lent}
use Rattle.vr_attach.proofs.Intervals.{least_10, segment_other}
use Rattle.vr_attach.proofs.interval.interval_rule.Goals as goal

pub returns-in-Segment : goal.returns-in-Segment
returns-in-Segment c =
    let other = segment_other c.in-Ok.view.shape c.in-Segment.piece c.in-Segment.number
    (sym c.shape.ensures ∙ c.in-Segment.is) in
    least_10 c.args.layout.now (range_lent c.args.range.now) c.args.block.now c.in-Ok.view
    (record { spelled = c.in-Ok.ensures.ok; size = c.requires }) other.0
    (λ has. other.1 has.shape)
