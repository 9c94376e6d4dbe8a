use Rattle.vr_trace.proofs.Merges.{deck_asked}
use Rattle.vr_trace.proofs.laws.deck_part_is_as_asked.Goals as goal

pub returns : goal.returns
returns c = deck_asked
