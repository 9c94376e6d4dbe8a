use Rattle.vr_ci.proofs.laws.one_spelling.Goals as goal
use Rattle.vr_ci.proofs.IntervalLemmas.{one_value}
use Rattle.vr_ci.proofs.LawLemmas.{one_block, some_block}

pub returns-clause-one_value : goal.returns-clause-one_value
returns-clause-one_value c = one_value

pub returns-clause-one_block : goal.returns-clause-one_block
returns-clause-one_block c = one_block

pub returns-clause-some_block : goal.returns-clause-some_block
returns-clause-some_block c = some_block
