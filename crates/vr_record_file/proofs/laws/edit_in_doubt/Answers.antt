use Rattle.vr_record_file.proofs.CatalogEdits.{in_doubt_leaves}
use Rattle.vr_record_file.proofs.laws.edit_in_doubt.Goals as goal

pub returns : goal.returns
returns c = in_doubt_leaves
