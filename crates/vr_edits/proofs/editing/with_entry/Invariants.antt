use Rattle.std.proofs.Common.{◌≡◌, ◌++◌, cond, drop}
use Rattle.vr_edits.specs.Edits as words
use Rattle.vr_edits.proofs.editing.with_entry.Given as goal

abbrev pub invariant-loop-entry : goal.invariant-loop-entry
invariant-loop-entry l = l.with ++ cond l.placed (drop l.entry-index l.catalog)
    (words.with_entry l.new (drop l.entry-index l.catalog))
    ≡ words.with_entry l.new l.catalog
