use Rattle.std.proofs.Common.{◌≡◌, take}
use Rattle.vr_trace.specs.Code.{history_code}
use Rattle.vr_trace.proofs.code.history_code.Given as goal

-- the code so far is that of the entries so far
abbrev pub invariant-loop-entry : goal.invariant-loop-entry
invariant-loop-entry l = l.code ≡ history_code l.deck (take l.entry-index l.entries)
