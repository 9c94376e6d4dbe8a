use Rattle.std.proofs.Common.{◌≡◌, take}
use Rattle.vr_trace.specs.Code.{decks_code, greatest}
use Rattle.vr_trace.proofs.code.steps_code.Given as goal

-- the code so far is that of the steps so far
abbrev pub invariant-loop-step : goal.invariant-loop-step
invariant-loop-step l = l.code ≡ greatest (decks_code l.histories) (take l.step-index l.steps)
