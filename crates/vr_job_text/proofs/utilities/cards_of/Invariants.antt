use Rattle.std.proofs.Common.{◌≡◌, ◌++◌, drop}
use Rattle.vr_job_text.specs.Utilities.{cards_of}
use Rattle.vr_job_text.proofs.utilities.cards_of.Given as goal

-- what is left is added
abbrev pub invariant-loop-at : goal.invariant-loop-at
invariant-loop-at l = l.cards ++ cards_of (drop l.at l.lines) ≡ cards_of l.fn.lines
