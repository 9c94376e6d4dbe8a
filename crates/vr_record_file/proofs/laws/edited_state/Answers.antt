use Rattle.vr_record_file.proofs.CatalogEdits.{edited_leaves}
use Rattle.vr_record_file.proofs.laws.edited_state.Goals as goal

pub returns : goal.returns
returns c = edited_leaves
