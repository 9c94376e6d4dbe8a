use Rattle.std.proofs.Common.{Option, Some, None}
use Rattle.std.specs.Prelude.{MatchOption}
use Rattle.vr_space.specs.Entries.{IsEntries}
use Rattle.vr_attach.specs.Chain.{EntriesBreak, HasEntries, SpellsRecords}
use Rattle.vr_attach.specs.Damage.{IsLeastBroken}
use Rattle.vr_attach.specs.declared.rule.Rule.{Rule}
use Rattle.vr_chained.proofs.EntryRules.{has-entries}
use Rattle.vr_chained.proofs.rules.entries_rule.Goals as goal

pub returns : goal.returns
returns c = by_rule c.records_rule.result (c.records_rule.ensures c.args.block.now spells)
  where
    spells : SpellsRecords c.args.layout.now c.args.block.now c.in-Ok.view
    spells = record { spelled = c.in-Ok.ensures.ok; size = c.requires.size }

    by_rule : (rule : Option Rule)
        → MatchOption rule (HasEntries c.args.layout.now c.in-Ok.view)
        (IsLeastBroken (EntriesBreak c.args.layout.now c.args.block.now))
        → MatchOption rule (IsEntries c.args.layout.now c.args.block.now)
        (IsLeastBroken (EntriesBreak c.args.layout.now c.args.block.now))
    by_rule None has = has-entries c.args.layout.now c.args.block.now c.in-Ok.view spells has
    by_rule (Some rule) bad = bad
