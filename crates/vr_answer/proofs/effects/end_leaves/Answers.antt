use Rattle.vr_answer.proofs.AfterLemmas.{after_backout, after_commit, after_endreq}
use Rattle.vr_answer.proofs.effects.end_leaves.Goals as goal

pub returns : goal.returns
returns c = record { endreq = after_endreq; commit = after_commit; backout = after_backout }
