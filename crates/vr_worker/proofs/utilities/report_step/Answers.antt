use Rattle.std.proofs.Common.{Ok}
use Rattle.vr_worker.proofs.utilities.report_step.Goals as goal

-- what the commands left is so whether or not their report was added

pub returns-in_err-report-clause-left : goal.returns-in_err-report-clause-left
returns-in_err-report-clause-left g c = c.run_utilities.ensures.left c.from_residual.result

pub returns-in_err-add_report-clause-left : goal.returns-in_err-add_report-clause-left
returns-in_err-add_report-clause-left g c =
    c.run_utilities.ensures.left c.from_residual-in_err-add_report.result

pub returns-clause-left : goal.returns-clause-left
returns-clause-left g c = c.run_utilities.ensures.left (Ok tt)
