use Rattle.std.proofs.Common.{◌≡◌, take}
use Rattle.vr_trace.specs.Code.{step_code}
use Rattle.vr_trace.proofs.code.step_code.Given as goal

-- the code so far is that of the decks so far
abbrev pub invariant-loop-deck : goal.invariant-loop-deck
invariant-loop-deck l = l.code ≡ step_code l.histories (take l.deck-index l.deck-items)
