use Rattle.std.proofs.Common.{◌∙◌, List, arith, subst, sym}
use Rattle.vr_job.specs.Shelf.{AreOpening}
use Rattle.vr_job.proofs.Shelves.{none-left, opening-all, opening-count, opening-step}
use Rattle.vr_job.proofs.shelf_run.open_all.Goals as goal

pub loop-device-preserved : goal.loop-device-preserved
loop-device-preserved g c =
    let D = g.D.BlockDevice in
    let now = c.loop-device in
    record {
      opening = opening-step D.tells D.seen D.faults c.args.shelf.items c.next.new.self.rest.items
          c.in-Some.device now.volumes.items now.unopened.items now.result
          c.open_or_keep-result.new.volumes.items c.open_or_keep-result.new.unopened.items
          c.open_or_keep-result.result
          (subst (λ (them : List g.row.D.Denot). AreOpening D.tells D.seen D.faults
          c.args.shelf.items them now.volumes.items now.unopened.items now.result)
          c.in-Some.ensures.steps.0 now.invariant.opening)
          c.open_or_keep-result.ensures.next;
      room = omega (arith, now.invariant.room, c.open_or_keep-result.ensures.room);
      room_back = omega (arith, now.invariant.room_back, c.open_or_keep-result.ensures.room_back);
    }

pub returns-clause-opened : goal.returns-clause-opened
returns-clause-opened g c =
    let D = g.D.BlockDevice in
    let now = c.loop-device in
    opening-all D.tells D.seen D.faults c.args.shelf.items now.volumes.items now.unopened.items
    now.result (subst (λ (them : List g.row.D.Denot). AreOpening D.tells D.seen D.faults
    c.args.shelf.items them now.volumes.items now.unopened.items now.result)
    (none-left now.device-iterator.rest.items
    (sym now.device-iterator.rest.ok.0 ∙ c.in-None.ensures.steps.0)) now.invariant.opening)

pub returns-clause-count : goal.returns-clause-count
returns-clause-count g c =
    let D = g.D.BlockDevice in
    let now = c.loop-device in
    omega (
      arith,
      opening-count D.tells D.seen D.faults c.args.shelf.items now.device-iterator.rest.items
          now.volumes.items now.unopened.items now.result now.invariant.opening,
      now.device-iterator.rest.ok.0,
      c.in-None.ensures.steps.0,
    )
