use Rattle.vr_history.proofs.Positions.{only_refused}
use Rattle.vr_history.proofs.laws.refused_changes_nothing.Goals as goal

pub returns : goal.returns
returns c = only_refused
