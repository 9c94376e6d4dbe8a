use Rattle.vr_frames.proofs.Claims.{won_after, tried_more}
use Rattle.vr_frames.proofs.shared.Pool.claim_within.Goals as goal

pub returns-then-claim-clause-some : goal.returns-then-claim-clause-some
returns-then-claim-clause-some c = let from = c.loop-number.auto.number in
    let found = won_after _ _ _ _ _ from c.loop-number.invariant c.if-claim.ensures in
    (found.0, found.1, from, c.loop-number-test.true)

pub loop-number-preserved : goal.loop-number-preserved
loop-number-preserved c =
    tried_more _ _ _ _ _ c.loop-number.auto.number c.loop-number.invariant c.if-claim.ensures
