use Rattle.std.proofs.Common.{take}
use Rattle.vr_worker.proofs.Runs.{RunsThrough}
use Rattle.vr_worker.proofs.deck.ask_all.Given as goal

-- the requests so far were answered
abbrev pub invariant-loop-bound : goal.invariant-loop-bound
invariant-loop-bound g l = RunsThrough l.fn.deck (take l.bound-index l.fn.requests) l.fn.last l.last
    l.fn.turns l.turns
