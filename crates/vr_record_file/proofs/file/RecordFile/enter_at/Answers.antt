use Rattle.std.proofs.Common.{List, None, ap, sym, ◌∙◌, subst}
use Rattle.vr_browse.specs.Positions.{SetsOnly}
use Rattle.vr_browse.specs.declared.positions.FilePosition.{FilePosition}
use Rattle.vr_history.specs.Case.{file_of}
use Rattle.vr_record_file.specs.Now.{FileNow}
use Rattle.vr_record_file.proofs.file.RecordFile.enter_at.Goals as goal

pub returns-clause-file : goal.returns-clause-file
returns-clause-file c = λ on known.
    subst (λ (l : List FilePosition). SetsOnly c.args.self.now.files l c.args.unit.deck on.slot
    (record { stand = c.args.stand; held = None }))
    (sym (ap (λ (f : FileNow). f.files) c.enter.ensures.leaves))
    (c.place.ensures.set on (ap file_of c.get.ensures ∙ known))
