use Rattle.std.proofs.Common.{sym, ◌∙◌}
use Rattle.vr_space.specs.Lent.{range_lent}
use Rattle.vr_attach.proofs.Passing.{untrue}
use Rattle.vr_attach.proofs.Intervals.{ended, least_10, least_11, holds}
use Rattle.vr_attach.proofs.interval.records_rule.Goals as goal

pub returns-then-not-are_kept : goal.returns-then-not-are_kept
returns-then-not-are_kept c = λ block spells.
    least_10 c.args.layout.now (range_lent c.args.range.now) block c.args.view.now spells
    (λ is. ended (sym c.requires ∙ is))
    (λ has. untrue c.are_kept.result c.are_kept.ensures c.if-not-are_kept.true has.kept)

pub returns-then-not-are_in_order : goal.returns-then-not-are_in_order
returns-then-not-are_in_order c = λ block spells.
    least_11 c.args.layout.now (range_lent c.args.range.now) block c.args.view.now spells
    (record { shape = c.requires; kept = c.are_kept.ensures.0 c.if-not-are_kept.false })
    (untrue c.are_in_order.result c.are_in_order.ensures c.if-not-are_in_order.true)

pub returns : goal.returns
returns c = λ block spells.
    holds c.args.layout.now (range_lent c.args.range.now) block c.args.view.now spells
    (record { shape = c.requires; kept = c.are_kept.ensures.0 c.if-not-are_kept.false })
    (c.are_in_order.ensures.0 c.if-not-are_in_order.false)
