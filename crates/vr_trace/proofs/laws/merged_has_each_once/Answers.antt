use Rattle.vr_history.specs.Merged.{numbered_from}
use Rattle.vr_trace.proofs.Merges.{each_once}
use Rattle.vr_trace.proofs.laws.merged_has_each_once.Goals as goal

pub returns : goal.returns
returns c = λ histories. each_once (numbered_from 0 histories)
