use Rattle.std.proofs.Common.{◌≡◌, ◌++◌, map, take}
use Rattle.std.specs.List.{flat_map}
use Rattle.vr_trace.specs.Listing.{deck_lines}
use Rattle.vr_trace.specs.Numbering.{numbered_of, held_decks}
use Rattle.vr_trace.proofs.job_listing.write_ordered.Given as goal

-- the lines so far are those of the decks so far
abbrev pub invariant-loop-deck : goal.invariant-loop-deck
invariant-loop-deck l = l.out ≡ l.fn.out
    ++ flat_map (deck_lines (map numbered_of l.entries)) (held_decks (take l.deck-index l.decks))
