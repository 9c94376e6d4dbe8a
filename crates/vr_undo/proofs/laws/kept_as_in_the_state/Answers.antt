use Rattle.vr_undo.proofs.Stating.{befores-end, befores-stated, logged-end, logged-stated}
use Rattle.vr_undo.proofs.laws.kept_as_in_the_state.Goals as goal

pub returns-clause-befores : goal.returns-clause-befores
returns-clause-befores c = befores-stated

pub returns-clause-logged : goal.returns-clause-logged
returns-clause-logged c = logged-stated

pub returns-clause-befores_ended : goal.returns-clause-befores_ended
returns-clause-befores_ended c = befores-end

pub returns-clause-logged_ended : goal.returns-clause-logged_ended
returns-clause-logged_ended c = logged-end
