use Rattle.std.proofs.Common.{◌≡◌, drop, max}
use Rattle.vr_ams_define.specs.Deleted.{worst_code}
use Rattle.vr_ams_define.proofs.deleting.worst_code.Given as goal

-- the failures that are left give the rest of the answer
abbrev pub invariant-loop-failure : goal.invariant-loop-failure
invariant-loop-failure l =
    max l.worst (worst_code (drop l.failure-index l.failures)) ≡ worst_code l.fn.failures
