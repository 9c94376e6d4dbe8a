use Rattle.vr_record_file.proofs.Definitions.{defined_leaves}
use Rattle.vr_record_file.proofs.laws.defined_state.Goals as goal

pub returns : goal.returns
returns c = defined_leaves
