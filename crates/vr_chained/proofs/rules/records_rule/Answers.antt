use Rattle.std.proofs.Common.{sym, ◌∙◌, true≢false}
use Rattle.vr_chained.proofs.EntryRules.{bad-records, not-ended, segment-other, segment-unended}
use Rattle.vr_chained.proofs.rules.records_rule.Goals as goal

pub returns-in-Segment : goal.returns-in-Segment
returns-in-Segment c = λ block spells.
    let value = c.args.view.now in
    let is = sym c.shape.ensures ∙ c.in-Segment.is in
    bad-records c.args.layout.now block value spells
    (segment-unended value.shape c.in-Segment.piece c.in-Segment.number is)
    (λ has. segment-other value.shape c.in-Segment.piece c.in-Segment.number is has.shape)

pub returns-else-has_entries : goal.returns-else-has_entries
returns-else-has_entries c = λ block spells.
    bad-records c.args.layout.now block c.args.view.now spells
    (λ end. not-ended (sym c.in-Records.is ∙ c.shape.ensures ∙ end))
    (λ has. true≢false (sym (c.has_entries.ensures.1 has) ∙ c.if-has_entries.false))
