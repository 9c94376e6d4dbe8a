use Rattle.std.proofs.Common.{◌≡◌, ◌++◌, map, take}
use Rattle.vr_trace.specs.Listing.{deck_lines}
use Rattle.vr_trace.specs.Numbering.{numbered_of}
use Rattle.vr_trace.proofs.job_listing.write_deck.Given as goal

-- the lines so far are those of the entries so far
abbrev pub invariant-loop-this : goal.invariant-loop-this
invariant-loop-this l = l.out ≡ l.fn.out
    ++ deck_lines (map numbered_of (take l.this-index l.entries)) l.deck
