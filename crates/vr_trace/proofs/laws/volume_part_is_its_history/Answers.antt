use Rattle.vr_trace.proofs.Merges.{volume_part}
use Rattle.vr_trace.proofs.laws.volume_part_is_its_history.Goals as goal

pub returns : goal.returns
returns c = volume_part
