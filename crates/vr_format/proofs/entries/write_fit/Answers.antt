use Rattle.std.proofs.Common.{length}
use Rattle.vr_mount.proofs.CallerLemmas.{touches-none}
use Rattle.vr_format.specs.Formatted.{IsWritten}
use Rattle.vr_format.proofs.entries.write_fit.Goals as goal

pub returns-in_err-plan-clause-after : goal.returns-in_err-plan-clause-after
returns-in_err-plan-clause-after g c told =
    touches-none (IsWritten c.args.geometry.now (length c.args.entries.now))
    (g.D.BlockDevice.seen c.args.device.now)
    (λ image left. g.met.D.BlockDevice.images_may c.args.device.now image told left)
