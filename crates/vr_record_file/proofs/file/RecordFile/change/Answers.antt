use Rattle.std.proofs.Common.{sym, subst}
use Rattle.vr_record_file.specs.Now.{IsStateOf}
use Rattle.vr_record_file.proofs.Changes.{changed_state}
use Rattle.vr_record_file.proofs.file.RecordFile.change.Goals as goal

pub returns-clause-state : goal.returns-clause-state
returns-clause-state c = λ opening before place feedback shown bytes is may done at locked other.
    subst (IsStateOf opening) (sym c.enter_asked.ensures.leaves)
    (changed_state opening c.args.self.now c.args.after c.args.line c.args.unit c.args.request
    c.args.reply before place feedback shown bytes is may done at locked other)
