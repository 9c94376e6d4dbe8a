use Rattle.std.proofs.Common.{◌≡◌, take}
use Rattle.vr_recover.specs.Found.{held_entries}
use Rattle.vr_recover.proofs.laid.by_number.Given as goal

-- the entries so far
abbrev pub invariant-loop-entry : goal.invariant-loop-entry
invariant-loop-entry l = held_entries l.ordered.items ≡ take l.entry-index l.entries
