use Rattle.std.proofs.Common.{map, take}
use Rattle.vr_worker.specs.Runs.{AreRuns}
use Rattle.vr_worker.proofs.steps.bind_all.Given as goal

-- the decks so far have their requests
abbrev pub invariant-loop-deck : goal.invariant-loop-deck
invariant-loop-deck l =
    AreRuns (map (λ one. one.now) l.catalogs) (take l.deck-index l.decks) l.runs.items
