use Rattle.std.proofs.Common.{sym, subst}
use Rattle.vr_record_file.specs.Now.{IsStateOf}
use Rattle.vr_record_file.proofs.Changes.{claimed_state}
use Rattle.vr_record_file.proofs.file.RecordFile.claim.Goals as goal

pub returns-clause-state : goal.returns-clause-state
returns-clause-state c = λ opening is free laid.
    subst (IsStateOf opening) (sym c.enter.ensures.leaves)
    (claimed_state opening c.args.self.now c.args.after c.args.unit c.args.line c.args.part c.args.area is free
    laid)
