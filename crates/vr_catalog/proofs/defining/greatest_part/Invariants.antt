use Rattle.std.proofs.Common.{◌≡◌, take}
use Rattle.vr_catalog.specs.Define.{greatest_part}
use Rattle.vr_catalog.proofs.defining.greatest_part.Given as goal

-- the greatest so far
abbrev pub invariant-loop-entry : goal.invariant-loop-entry
invariant-loop-entry l = l.greatest ≡ greatest_part (take l.entry-index l.entry-items)
