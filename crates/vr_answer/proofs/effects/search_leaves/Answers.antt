use Rattle.vr_answer.proofs.AfterLemmas.{after_end, after_least, after_lost, after_next}
use Rattle.vr_answer.proofs.AfterLemmas.{after_no_address, after_point}
use Rattle.vr_answer.proofs.effects.search_leaves.Goals as goal

pub returns : goal.returns
returns c = record {
  sequential = after_next;
  at_least = after_least;
  point = after_point;
  at_end = after_end;
  lost = after_lost;
  no_address = after_no_address;
}
