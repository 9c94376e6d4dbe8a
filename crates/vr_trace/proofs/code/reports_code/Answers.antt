use Rattle.std.proofs.Common.{max, ap, ◌∙◌}
use Rattle.vr_trace.specs.Code.{report_code}
use Rattle.vr_trace.proofs.Codes.{greatest-take}
use Rattle.vr_trace.proofs.code.reports_code.Goals as goal

pub loop-report-preserved : goal.loop-report-preserved
loop-report-preserved c =
    c.max-code.ensures ∙ ap (λ most. max most c.report-item.result.code) c.loop-report.invariant
    ∙ greatest-take report_code c.args.reports.now c.loop-report.report-index c.report-item.result
    c.loop-report-test.true c.report-item.is
