use Rattle.std.proofs.Common.{length}
use Rattle.vr_mount.proofs.CallerLemmas.{touches-none}
use Rattle.vr_format.specs.Formatted.{IsWritten}
use Rattle.vr_format.proofs.format.write_entries.Goals as goal

pub returns-in_err-fillers-clause-after : goal.returns-in_err-fillers-clause-after
returns-in_err-fillers-clause-after g c told =
    touches-none (IsWritten c.args.geometry.now (length c.args.clusters.now))
    (g.D.BlockDevice.seen c.args.device.now)
    (λ image left. g.met.D.BlockDevice.images_may c.args.device.now image told left)

pub returns-in_err-block-clause-after : goal.returns-in_err-block-clause-after
returns-in_err-block-clause-after g c told =
    touches-none (IsWritten c.args.geometry.now (length c.args.clusters.now))
    (g.D.BlockDevice.seen c.args.device.now)
    (λ image left. g.met.D.BlockDevice.images_may c.args.device.now image told left)
