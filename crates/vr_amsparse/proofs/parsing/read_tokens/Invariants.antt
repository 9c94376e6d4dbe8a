use Rattle.std.proofs.Common.{◌≡◌, drop}
use Rattle.vr_amsparse.specs.Run.{run, Went}
use Rattle.vr_amsparse.proofs.parsing.read_tokens.Given as goal

-- the run of what is left is that of all
abbrev pub invariant-loop-at : goal.invariant-loop-at
invariant-loop-at l =
    run l.tokens l.names (Went l.state) l.at (drop l.at l.tokens)
    ≡ run l.fn.tokens l.fn.names (Went l.fn.state) 0 l.fn.tokens
