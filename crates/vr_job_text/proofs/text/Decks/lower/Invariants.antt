use Rattle.std.proofs.Common.{◌≡◌, ◌+◌, drop}
use Rattle.vr_job_text.specs.Decks.{place_of}
use Rattle.vr_job_text.proofs.text.Decks.lower.Given as goal

-- the place is looked for among what is left
abbrev pub invariant-loop-at : goal.invariant-loop-at
invariant-loop-at l =
    l.at + place_of (drop l.at l.decks) l.number ≡ place_of l.fn.self l.fn.number
