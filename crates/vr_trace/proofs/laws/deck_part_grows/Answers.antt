use Rattle.vr_trace.proofs.Merges.{deck_grows, deck_stays, requests_grow}
use Rattle.vr_trace.proofs.laws.deck_part_grows.Goals as goal

pub returns-clause-part : goal.returns-clause-part
returns-clause-part c = deck_grows

pub returns-clause-requests : goal.returns-clause-requests
returns-clause-requests c = requests_grow

pub returns-clause-others : goal.returns-clause-others
returns-clause-others c = deck_stays
