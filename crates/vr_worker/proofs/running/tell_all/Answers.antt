use Rattle.std.proofs.Common.{◌∙◌, ◌<◌, arith, length, subst}
use Rattle.std.proofs.lemmas.List.Elements.{AllWithin-more_set}
use Rattle.vr_worker.specs.Ready.{IsToldAt}
use Rattle.vr_worker.proofs.Told.{same-set}
use Rattle.vr_worker.proofs.running.tell_all.Goals as goal

pub loop-at-preserved : goal.loop-at-preserved
loop-at-preserved g c =
    let entries = g.V.Served.entries in
    let have = c.loop-at.invariant in
    let next = c.tell_one.new.seat in
    let near : c.loop-at.at < length c.loop-at.seats =
    omega (
      arith,
      c.loop-at-test.true,
      c.loop-at.auto.seats,
      c.loop-at.auto.at-end,
      have.seats.count,
    ) in
    record {
      told = AllWithin-more_set c.loop-at.seats c.loop-at.at next near
          (IsToldAt c.args.place (entries c.args.latched.now.volume)) have.told
          (subst (λ (volume : g.row.V.Denot). IsToldAt c.args.place (entries volume) next)
          have.volume c.tell_one.ensures.told);
      seats = same-set c.args.seats.now c.loop-at.seats c.loop-at.at c.index-seats-at.result next
          near have.seats c.tell_one.ensures.seat;
      volume = c.tell_one.ensures.volume ∙ have.volume;
    }
