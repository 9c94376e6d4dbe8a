use Rattle.std.proofs.Common.{Option, ap, subst, sym, ◌∙◌}
use Rattle.std.specs.Option.{option_and_then}
use Rattle.vr_types.specs.declared.reply.Refusal.{Refusal}
use Rattle.vr_history.specs.Step.{stand_refused}
use Rattle.vr_answer.specs.Tried.{IsCalm}
use Rattle.vr_answer.proofs.CalmLemmas.{file_calm}
use Rattle.vr_answer.proofs.FileLemmas.{file_is, stopped_refused}
use Rattle.vr_answer.proofs.StayLemmas.{file_stays}
use Rattle.vr_answer.proofs.by_file.refused_by_file.Goals as goal

pub returns : goal.returns
returns c = record {
  value = λ state is. c.file_here.ensures ∙ file_is c.args.case.now state is;
  stays = λ direct.
      ap (λ (o : Option Refusal). option_and_then (stand_refused c.args.case.now.request.now) o)
      c.file_here.ensures
      ∙ file_stays c.args.case.now direct;
  stops = λ some none. some (stopped_refused c.args.case.now (sym c.file_here.ensures ∙ none));
  calm = subst IsCalm (sym c.file_here.ensures) (file_calm c.args.case.now);
}
