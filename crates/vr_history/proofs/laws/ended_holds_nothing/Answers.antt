use Rattle.vr_history.proofs.Endings.{ended_free}
use Rattle.vr_history.proofs.laws.ended_holds_nothing.Goals as goal

pub returns : goal.returns
returns c = ended_free
