use Rattle.vr_mount.proofs.Headers.{one_shape, one_number}
use Rattle.vr_mount.proofs.laws.one_header.Goals as goal

pub returns : goal.returns
returns c = record { shape = one_shape; number = one_number }
