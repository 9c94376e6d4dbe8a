use Rattle.std.proofs.Common.{◌∙◌, ℕ, Some, ap, sym, subst}
use Rattle.vr_types.specs.declared.fault.DeviceFault.TheVariants.{Write}
use Rattle.vr_history.specs.declared.entry.What.TheVariants.{Faulted}
use Rattle.vr_record_file.specs.Now.{FileNow, IsStateOf, with_event}
use Rattle.vr_record_file.proofs.Steps.{faulted_state}
use Rattle.vr_record_file.proofs.file.RecordFile.fault.Goals as goal

pub returns-clause-state : goal.returns-clause-state
returns-clause-state c = λ opening is.
    let file : FileNow = c.args.self.now in
    subst (IsStateOf opening) (sym (c.stop.ensures
    ∙ ap (λ (to : FileNow). record to { stopped = Some c.next_stamp-stamp.result })
    c.enter.ensures.leaves
    ∙ ap (λ (stamp : ℕ). record (with_event c.args.after c.args.unit c.args.line (Faulted Write)
    file) { stopped = Some stamp }) c.next_stamp-stamp.ensures))
    (faulted_state opening file c.args.after c.args.line c.args.unit c.requires.going is)
