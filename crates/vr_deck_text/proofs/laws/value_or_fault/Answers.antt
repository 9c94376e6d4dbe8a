use Rattle.vr_deck_text.proofs.Running.{either_in}
use Rattle.vr_deck_text.proofs.laws.value_or_fault.Goals as goal

pub returns-clause-either : goal.returns-clause-either
returns-clause-either c lines = either_in _
