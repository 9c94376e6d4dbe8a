use Rattle.std.proofs.Common.{Option, ap, ◌∙◌}
use Rattle.std.specs.Option.{option_and_then, option_copied}
use Rattle.vr_types.specs.declared.reply.Refusal.{Refusal}
use Rattle.vr_history.specs.Step.{stand_refused}
use Rattle.vr_answer.proofs.LogLemmas.{full_is}
use Rattle.vr_answer.proofs.StayLemmas.{full_stays}
use Rattle.vr_answer.proofs.logging.log_full.Goals as goal

pub returns : goal.returns
returns c = record {
  value = λ state is at logs lives.
      c.full_here.ensures
      ∙ full_is c.args.case.now state is (option_copied c.args.looked.present) c.args.logged
      c.args.live at.present logs lives;
  stays = λ direct.
      ap (λ (o : Option Refusal). option_and_then (stand_refused c.args.case.now.request.now) o)
      c.full_here.ensures
      ∙ full_stays c.args.case.now direct (option_copied c.args.looked.present) c.args.logged
      c.args.live;
}
