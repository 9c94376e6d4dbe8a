use Rattle.std.proofs.Common.{length}
use Rattle.vr_record_file.specs.CatalogEdit.{steps_made}
use Rattle.vr_record_file.proofs.Stepping.{IsStepping}
use Rattle.vr_record_file.proofs.file.RecordFile.enter_steps.Given as goal

abbrev pub invariant-loop-unit : goal.invariant-loop-unit
invariant-loop-unit l = IsStepping
    (steps_made l.fn.after l.fn.unit l.fn.line l.fn.steps.items l.fn.self) l.fn.unit l.fn.line
    l.left l.above l.self

abbrev pub decreases-loop-unit : goal.decreases-loop-unit
decreases-loop-unit l = length l.left
