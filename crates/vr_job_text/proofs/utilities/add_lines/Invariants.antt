use Rattle.std.proofs.Common.{◌≡◌, ◌++◌, drop}
use Rattle.vr_job_text.proofs.utilities.add_lines.Given as goal

-- what is left is added
abbrev pub invariant-loop-at : goal.invariant-loop-at
invariant-loop-at l = l.lines ++ drop l.at l.more ≡ l.fn.lines ++ l.fn.more
