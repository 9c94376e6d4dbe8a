use Rattle.std.proofs.Common.{◌≡◌, drop}
use Rattle.vr_ams_define.specs.Deleted.{fault_with}
use Rattle.vr_ams_define.proofs.deleting.fault_with.Given as goal

-- the failures that are left give the answer
abbrev pub invariant-loop-failure : goal.invariant-loop-failure
invariant-loop-failure l =
    fault_with l.code (drop l.failure-index l.failures) ≡ fault_with l.fn.code l.fn.failures
