use Rattle.std.proofs.Common.{◌≡◌, drop}
use Rattle.vr_deck_text.specs.Deck.{named_from}
use Rattle.vr_deck_text.proofs.order.file_named.Given as goal

-- the name is looked for among what is left
abbrev pub invariant-loop-at : goal.invariant-loop-at
invariant-loop-at l =
    named_from l.at (drop l.at l.files) l.name ≡ named_from 0 l.fn.files l.name
