use Rattle.std.proofs.Common.{◌≡◌, drop}
use Rattle.vr_deck_text.specs.Words.{words}
use Rattle.vr_deck_text.proofs.word.unindented.Given as goal

-- what is left has the same words
abbrev pub invariant-loop-at : goal.invariant-loop-at
invariant-loop-at l = words (drop l.at l.text) ≡ words l.text
