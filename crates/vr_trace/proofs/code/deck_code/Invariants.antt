use Rattle.std.proofs.Common.{◌≡◌, take}
use Rattle.vr_history.specs.Kept.{Kept}
use Rattle.vr_trace.specs.Code.{greatest, history_code}
use Rattle.vr_trace.proofs.code.deck_code.Given as goal

-- the code so far is that of the volumes so far
abbrev pub invariant-loop-history : goal.invariant-loop-history
invariant-loop-history l = l.code ≡ greatest (λ (kept : Kept). history_code l.deck kept.entries)
    (take l.history-index l.histories)
