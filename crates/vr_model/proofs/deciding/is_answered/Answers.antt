use Rattle.vr_model.proofs.Tests.{both_true}
use Rattle.vr_model.proofs.deciding.is_answered.Goals as goal

pub returns-then-same : goal.returns-then-same
returns-then-same c =
    both_true c.in_ok-same.same c.in_ok-ends.ends c.in_ok-same.ensures c.in_ok-ends.ensures
    c.if-same.true
