use Rattle.vr_start.proofs.Sizes.{defined-can-start}
use Rattle.vr_start.proofs.laws.entries_can_start.Goals as goal

pub returns : goal.returns
returns c = defined-can-start
