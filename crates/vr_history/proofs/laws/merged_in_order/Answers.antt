use Rattle.vr_history.specs.Merged.{numbered_from}
use Rattle.vr_history.proofs.Merging.{in_order_merged}
use Rattle.vr_history.proofs.laws.merged_in_order.Goals as goal

pub returns : goal.returns
returns c = λ histories. in_order_merged (numbered_from 0 histories)
