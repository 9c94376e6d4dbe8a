use Rattle.std.proofs.Common.{arith}
use Rattle.vr_worker.proofs.Puttings.{whole}
use Rattle.vr_worker.proofs.placing.put_all.Goals as goal

pub returns-clause-whole : goal.returns-clause-whole
returns-clause-whole g c =
    let have = c.loop-latch.invariant in
    whole g.V.Served.number 0 c.loop-latch.places have.put.placed
    (omega (
      arith,
      have.taken_is,
      have.put.many,
      c.requires.count,
      c.loop-latch.latch-iterator.rest.ok.0,
      c.in-None.ensures.steps.0,
    ))
