use Rattle.vr_answer.proofs.AfterLemmas.{after_change}
use Rattle.vr_answer.proofs.effects.change_leaves.Goals as goal

pub returns : goal.returns
returns c = after_change
