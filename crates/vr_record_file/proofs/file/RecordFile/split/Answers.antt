use Rattle.std.proofs.Common.{sym, subst}
use Rattle.vr_record_file.specs.Now.{IsStateOf}
use Rattle.vr_record_file.proofs.Changes.{split_state}
use Rattle.vr_record_file.proofs.file.RecordFile.split.Goals as goal

pub returns-clause-state : goal.returns-clause-state
returns-clause-state c = λ opening is.
    subst (IsStateOf opening) (sym c.enter.ensures.leaves)
    (split_state opening c.args.self.now c.args.after c.args.unit c.args.line c.args.part is)
