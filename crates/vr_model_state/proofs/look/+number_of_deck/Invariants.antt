use Rattle.std.proofs.Common.{length}
use Rattle.vr_model_state.proofs.look.+number_of_deck.Given as goal

abbrev pub decreases-number_of_deck : goal.decreases-number_of_deck
decreases-number_of_deck l = length l.numbers.now
