use Rattle.vr_trace.proofs.Merges.{deck_part}
use Rattle.vr_trace.proofs.laws.deck_part_is_merged.Goals as goal

pub returns : goal.returns
returns c = deck_part
