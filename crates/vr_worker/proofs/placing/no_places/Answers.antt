use Rattle.std.proofs.Common.{◌≡◌, ◌+◌, List, Option, arith, subst, sym, ℕ}
use Rattle.vr_worker.specs.Latched.{LatchedNow}
use Rattle.vr_worker.specs.Placing.{ArePut, taken}
use Rattle.vr_worker.proofs.Puttings.{put-none, taken-none}
use Rattle.vr_worker.proofs.placing.no_places.Goals as goal

pub loop-preserved : goal.loop-preserved
loop-preserved g c =
    let places = c.loop.places.items in
    let is = sym c.in_ok-push.ensures.items in
    record {
      put = subst (ArePut g.V.Served.number (c.loop.counter + 1)) is
          (put-none g.V.Served.number c.loop.counter places c.loop.invariant.put);
      none = subst (λ (them : List (Option (LatchedNow g.row.V.Denot))). taken them ≡ 0) is
          (taken-none g.V.Served.number places c.loop.invariant.none);
    }

pub returns-clause-places : goal.returns-clause-places
returns-clause-places g c = subst
    (λ (n : ℕ). ArePut g.V.Served.number n c.loop.places.items)
    (omega (arith, c.loop.auto.counter-end, c.loop-test.false)) c.loop.invariant.put
