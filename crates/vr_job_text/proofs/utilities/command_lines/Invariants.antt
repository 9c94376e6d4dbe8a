use Rattle.std.proofs.Common.{◌≡◌, ◌++◌, drop}
use Rattle.vr_job_text.specs.Utilities.{command_lines}
use Rattle.vr_job_text.proofs.utilities.command_lines.Given as goal

-- what is left is added
abbrev pub invariant-loop-part : goal.invariant-loop-part
invariant-loop-part l =
    l.lines ++ command_lines (drop l.part-index l.parts) ≡ command_lines l.fn.parts
