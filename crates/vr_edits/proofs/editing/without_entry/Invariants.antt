use Rattle.std.proofs.Common.{◌≡◌, ◌++◌, drop}
use Rattle.vr_edits.specs.Edits as words
use Rattle.vr_edits.proofs.editing.without_entry.Given as goal

abbrev pub invariant-loop-other : goal.invariant-loop-other
invariant-loop-other l = l.without ++ words.without_entry l.entry (drop l.other-index l.catalog)
    ≡ words.without_entry l.entry l.catalog
