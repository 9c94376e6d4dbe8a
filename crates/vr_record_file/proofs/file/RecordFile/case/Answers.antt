use Rattle.std.proofs.Common.{refl}
use Rattle.vr_record_file.proofs.Resting.{case_is, case_is_going, file_is}
use Rattle.vr_record_file.proofs.file.RecordFile.case.Goals as goal

pub returns-clause-file : goal.returns-clause-file
returns-clause-file c = λ opening is.
    file_is opening c.args.self.now is _ c.catalog.ensures c.held.ensures c.stand.ensures
    c.stopped.ensures refl

pub returns-clause-going : goal.returns-clause-going
returns-clause-going c = λ opening is going deck used free numbers.
    case_is_going opening c.args.self.now is _ c.catalog.ensures c.held.ensures c.stand.ensures
    c.stopped.ensures refl c.locks.ensures c.geometry.ensures used free numbers going

pub returns-clause-always : goal.returns-clause-always
returns-clause-always c = λ opening is deck used free numbers.
    case_is opening c.args.self.now is _ c.catalog.ensures c.held.ensures c.stand.ensures
    c.stopped.ensures refl c.locks.ensures c.geometry.ensures used free numbers
