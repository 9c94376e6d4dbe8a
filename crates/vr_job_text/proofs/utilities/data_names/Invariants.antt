use Rattle.std.proofs.Common.{◌≡◌, ◌++◌, drop}
use Rattle.vr_job_text.specs.Utilities.{data_names}
use Rattle.vr_job_text.proofs.utilities.data_names.Given as goal

-- what is left is added
abbrev pub invariant-loop-part : goal.invariant-loop-part
invariant-loop-part l =
    l.names ++ data_names (drop l.part-index l.parts) ≡ data_names l.fn.parts
