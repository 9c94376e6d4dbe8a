use Rattle.std.proofs.Common.{◌≡◌, take}
use Rattle.vr_trace.specs.Numbering.{held_decks}
use Rattle.vr_trace.proofs.job_listing.by_number.Given as goal

-- the decks so far
abbrev pub invariant-loop-deck : goal.invariant-loop-deck
invariant-loop-deck l = held_decks l.ordered.items ≡ take l.deck-index l.decks
