use Rattle.std.proofs.Common.{sym, subst}
use Rattle.vr_record_file.specs.Now.{IsStateOf}
use Rattle.vr_record_file.proofs.Changes.{undone_state}
use Rattle.vr_record_file.proofs.file.RecordFile.undone.Goals as goal

pub returns-clause-state : goal.returns-clause-state
returns-clause-state c = λ opening is going last.
    subst (IsStateOf opening) (sym c.enter.ensures.leaves)
    (undone_state opening c.args.self.now c.args.after c.args.unit c.args.line c.args.part
    c.args.place is going last)
