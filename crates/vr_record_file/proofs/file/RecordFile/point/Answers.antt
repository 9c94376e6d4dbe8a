use Rattle.std.proofs.Common.{refl, sym, subst}
use Rattle.vr_record_file.specs.Now.{IsStateOf}
use Rattle.vr_record_file.proofs.Placed.{pointed_state}
use Rattle.vr_record_file.proofs.file.RecordFile.point.Goals as goal

pub returns-clause-state : goal.returns-clause-state
returns-clause-state c = λ opening on find feedback shown bytes is may asks done at.
    subst (IsStateOf opening) (sym c.enter_at.ensures.leaves)
    (pointed_state opening c.args.self.now _ c.args.after c.args.line c.args.unit c.args.request
    c.args.reply c.args.at c.enter_at.new.self.files c.enter_at.new.self.files_room refl
    c.enter_at.ensures.file is may on find feedback shown bytes asks done at)
