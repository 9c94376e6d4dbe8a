use Rattle.std.proofs.Common.{◌≡◌, length, Ok}
use Rattle.vr_deck_text.specs.Operands.{with_words}
use Rattle.vr_deck_text.specs.Words.{words}
use Rattle.vr_deck_text.proofs.given.take_words.Given as goal

-- what is left comes to the same
abbrev pub invariant-loop-cut : goal.invariant-loop-cut
invariant-loop-cut l =
    with_words l.rows (Ok l.given) (words l.rest)
    ≡ with_words l.fn.rows (Ok l.fn.given) (words l.fn.text)

abbrev pub decreases-loop-cut : goal.decreases-loop-cut
decreases-loop-cut l = length l.rest
