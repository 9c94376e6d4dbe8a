use Rattle.std.proofs.Common.{◌∙◌}
use Rattle.vr_resident.proofs.Steps.{seat_then}
use Rattle.vr_resident.proofs.Returning.{all_home}
use Rattle.vr_resident.proofs.giving.give_all.Goals as goal

pub returns-clause-home : goal.returns-clause-home
returns-clause-home c = all_home c.loop-number.left c.in_default.ensures
    ∙ c.loop-number.invariant.seat.others_same

pub loop-number-preserved : goal.loop-number-preserved
loop-number-preserved c = record {
  claims = λ k. c.give.ensures.claims k ∙ c.loop-number.invariant.claims k;
  seated = c.give.ensures.seated;
  seat = seat_then c.args.frames c.loop-number.left c.give.new.frames c.loop-number.invariant.seat
      c.give.ensures.seat;
}
