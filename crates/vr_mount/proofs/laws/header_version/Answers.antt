use Rattle.vr_mount.proofs.Headers.{version_stated}
use Rattle.vr_mount.proofs.laws.header_version.Goals as goal

pub returns : goal.returns
returns c = version_stated
