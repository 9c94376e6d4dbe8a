use Rattle.std.proofs.Common.{◌≡◌, ◌++◌, drop}
use Rattle.vr_edits.specs.Edits as words
use Rattle.vr_edits.proofs.editing.with_altered.Given as goal

abbrev pub invariant-loop-entry : goal.invariant-loop-entry
invariant-loop-entry l = l.with ++ words.with_altered l.new (drop l.entry-index l.catalog)
    ≡ words.with_altered l.new l.catalog
