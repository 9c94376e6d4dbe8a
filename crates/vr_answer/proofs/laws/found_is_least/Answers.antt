use Rattle.vr_answer.proofs.LeastLemmas.{comes_least, comes_named, found_least}
use Rattle.vr_answer.proofs.laws.found_is_least.Goals as goal

pub returns : goal.returns
returns c = record { named = comes_named; searched = comes_least; found = found_least }
