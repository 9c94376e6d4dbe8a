use Rattle.vr_answer.proofs.CallerLemmas.{answered_by_file, answered_by_log, answered_by_record}
use Rattle.vr_answer.proofs.CallerLemmas.{answered_done}
use Rattle.vr_answer.proofs.laws.answer_comes_in_order.Goals as goal

pub returns : goal.returns
returns c = record {
  file = answered_by_file;
  by_record = answered_by_record;
  by_log = answered_by_log;
  done = answered_done;
}
