use Rattle.std.proofs.Common.{◌≡◌, take}
use Rattle.vr_catalog.proofs.catalog.Catalog.copy.Given as goal

-- the copies so far are the entries so far
abbrev pub invariant-loop-entry : goal.invariant-loop-entry
invariant-loop-entry l = l.entries.items ≡ take l.entry-index l.entry-items
