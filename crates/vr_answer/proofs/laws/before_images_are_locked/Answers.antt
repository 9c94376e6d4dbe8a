use Rattle.vr_history.specs.State.{opening_state}
use Rattle.vr_answer.proofs.KeptLemmas.{kept_in_the_way, kept_throughout}
use Rattle.vr_answer.proofs.laws.before_images_are_locked.Goals as goal

pub returns : goal.returns
returns c = record {
  kept = λ geometry contents owned entries. kept_throughout geometry (opening_state contents owned)
      entries tt;
  in_the_way = kept_in_the_way;
}
