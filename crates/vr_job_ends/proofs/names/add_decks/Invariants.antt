use Rattle.std.proofs.Common.{◌≡◌, ◌++◌, map, take}
use Rattle.vr_job_ends.specs.Names.{kept_deck}
use Rattle.vr_job_ends.proofs.names.add_decks.Given as goal

-- those so far are added
abbrev pub invariant-loop-deck : goal.invariant-loop-deck
invariant-loop-deck l = l.kept ≡ l.fn.kept ++ map kept_deck (take l.deck-index l.fn.decks)
