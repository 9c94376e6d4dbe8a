use Rattle.std.proofs.Common.{refl, sym, subst}
use Rattle.vr_record_file.specs.Now.{IsStateOf}
use Rattle.vr_record_file.proofs.Placed.{ended_request_state}
use Rattle.vr_record_file.proofs.file.RecordFile.end_request.Goals as goal

pub returns-clause-state : goal.returns-clause-state
returns-clause-state c = λ opening on is may asks.
    subst (IsStateOf opening) (sym c.enter_at.ensures.leaves)
    (ended_request_state opening c.args.self.now _ c.args.after c.args.line c.args.unit
    c.args.request c.enter_at.new.self.files c.enter_at.new.self.files_room refl
    c.enter_at.ensures.file is may on asks)
