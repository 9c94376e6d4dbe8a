use Rattle.std.proofs.Common.{sym, ◌∙◌}
use Rattle.vr_answer.specs.InHand.{whole}
use Rattle.vr_event.proofs.Weighs.{change-looks}
use Rattle.vr_event.proofs.weighing.changed_at.Goals as goal

pub returns-clause-looked : goal.returns-clause-looked
returns-clause-looked c = λ state is at change. record {
  place = c.place_changed.ensures state is ∙ sym (change-looks (whole c.args.case.now state) change);
  present = at;
}
