use Rattle.std.proofs.Common.{◌∙◌, ap, sym, subst}
use Rattle.vr_record_file.specs.Now.{IsStateOf, faulted}
use Rattle.vr_record_file.proofs.Steps.{failed_state}
use Rattle.vr_record_file.proofs.file.RecordFile.fail_write.Goals as goal

pub returns-clause-state : goal.returns-clause-state
returns-clause-state c = λ opening before is may.
    subst (IsStateOf opening) (sym (c.fault.ensures.leaves
    ∙ ap (faulted 0 c.args.unit c.args.line) c.enter_asked.ensures.leaves))
    (failed_state opening c.args.self.now c.args.after c.args.line c.args.unit c.args.request before
    c.requires.going is may)
