use Rattle.vr_edits.proofs.Rules.{order-kept}
use Rattle.vr_edits.proofs.laws.edits_keep_order.Goals as goal

pub returns : goal.returns
returns c geometry entries edit may order = order-kept geometry entries edit may order
