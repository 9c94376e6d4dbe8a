use Rattle.std.proofs.Common.{refl}
use Rattle.vr_types.specs.Fields.{four}
use Rattle.vr_log.specs.Records.{old_bytes}
use Rattle.vr_log.proofs.writing.none_bytes.Goals as goal

pub returns : goal.returns
unfolding old_bytes four
returns c = refl
