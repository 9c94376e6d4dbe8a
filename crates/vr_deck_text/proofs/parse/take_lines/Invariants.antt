use Rattle.std.proofs.Common.{◌≡◌, drop, Ok}
use Rattle.vr_deck_text.specs.Deck.{with_lines}
use Rattle.vr_deck_text.proofs.parse.take_lines.Given as goal

-- what is left comes to the same
abbrev pub invariant-loop-at : goal.invariant-loop-at
invariant-loop-at l =
    with_lines (Ok l.deck) (drop l.at l.lines) ≡ with_lines (Ok l.fn.deck) l.fn.lines
