use Rattle.std.proofs.Common.{false}
use Rattle.vr_worker.specs.Latched.{HasTaken}
use Rattle.vr_worker.proofs.asking.run_request.Given as goal

-- the request isn't answered yet
abbrev pub invariant-loop : goal.invariant-loop
invariant-loop g l = HasTaken l.fn.volume l.fn.line l.fn.request false l.fn.last l.last l.fn.turn
    l.turn
