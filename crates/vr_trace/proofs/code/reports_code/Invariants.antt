use Rattle.std.proofs.Common.{◌≡◌, take}
use Rattle.vr_trace.specs.Code.{greatest, report_code}
use Rattle.vr_trace.proofs.code.reports_code.Given as goal

-- the code so far is that of the reports so far
abbrev pub invariant-loop-report : goal.invariant-loop-report
invariant-loop-report l = l.code ≡ greatest report_code (take l.report-index l.reports)
