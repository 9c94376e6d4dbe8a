use Rattle.std.proofs.Common.{refl}
use Rattle.vr_job.specs.Formats.{WrongShape}
use Rattle.vr_job.proofs.formatting.format_devices.Goals as goal

pub returns-in-Some-clause-end : goal.returns-in-Some-clause-end
returns-in-Some-clause-end g c =
    WrongShape c.in-Some.volume c.if-devices-count.false refl c.in-Some.ensures.some refl
