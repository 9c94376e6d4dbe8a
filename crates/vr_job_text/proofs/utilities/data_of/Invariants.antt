use Rattle.std.proofs.Common.{◌≡◌, ◌++◌, drop}
use Rattle.vr_job_text.specs.Utilities.{data_of}
use Rattle.vr_job_text.proofs.utilities.data_of.Given as goal

-- what is left is added
abbrev pub invariant-loop-part : goal.invariant-loop-part
invariant-loop-part l =
    l.inputs ++ data_of (drop l.part-index l.parts) ≡ data_of l.fn.parts
