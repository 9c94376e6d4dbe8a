use Rattle.std.proofs.Common.{◌≡◌, drop}
use Rattle.vr_edits.specs.Edits as words
use Rattle.vr_edits.proofs.editing.without_entries.Given as goal

abbrev pub invariant-loop-entry : goal.invariant-loop-entry
invariant-loop-entry l = words.without_entries (drop l.entry-index l.gone) l.without
    ≡ words.without_entries l.gone l.catalog
