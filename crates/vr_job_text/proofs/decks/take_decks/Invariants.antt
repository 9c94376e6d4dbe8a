use Rattle.std.proofs.Common.{◌≡◌, drop, Ok}
use Rattle.vr_job_text.specs.Decks.{with_decks}
use Rattle.vr_job_text.proofs.decks.take_decks.Given as goal

-- what is left comes to the same
abbrev pub invariant-loop-part : goal.invariant-loop-part
invariant-loop-part l =
    with_decks (Ok l.decks) (drop l.part-index l.parts) ≡ with_decks (Ok l.fn.decks) l.fn.parts
