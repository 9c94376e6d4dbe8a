use Rattle.vr_model.proofs.Tests.{both_true}
use Rattle.vr_model.proofs.deciding.may_ask.Goals as goal

pub returns-then-current : goal.returns-then-current
returns-then-current c =
    both_true c.is_of_unit-current.result c.in_ok-may.may c.is_of_unit-current.ensures
    c.in_ok-may.ensures c.if-current.true
