use Rattle.std.proofs.Common.{refl}
use Rattle.vr_answer.proofs.TakingLemmas.{taken_alike}
use Rattle.vr_answer.proofs.laws.locks_are_taken_alike.Goals as goal

pub returns : goal.returns
returns c = record { taken = taken_alike; ended = λ unit state. refl }
