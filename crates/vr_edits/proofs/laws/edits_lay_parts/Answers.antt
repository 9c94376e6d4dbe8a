use Rattle.vr_edits.proofs.Shapes.{shapes-kept}
use Rattle.vr_edits.proofs.laws.edits_lay_parts.Goals as goal

pub returns : goal.returns
returns c geometry entries edit may part = shapes-kept geometry entries edit may part
