use Rattle.std.proofs.Common.{sym, ◌∙◌, rules}
use Rattle.vr_amsparse.proofs.Running.{run_went, run_stops, run_ended}
use Rattle.vr_amsparse.proofs.parsing.read_tokens.Goals as goal

pub returns-in-Err-clause-bad : goal.returns-in-Err-clause-bad
returns-in-Err-clause-bad c =
    run_stops _ _ _ _ _ _ _ _ (search rules) c.kind.ensures c.text.ensures c.loop-at.invariant
    c.in-Err.ensures.bad

pub loop-at-preserved : goal.loop-at-preserved
loop-at-preserved c =
    sym (run_went _ _ _ _ _ _ _ (search rules) c.kind.ensures c.text.ensures
    c.in-Ok.ensures.ok) ∙ c.loop-at.invariant

pub returns-clause-ok : goal.returns-clause-ok
returns-clause-ok c =
    run_ended _ _ _ _ _ (search rules) (search rules) c.loop-at.invariant
