use Rattle.std.proofs.Common.{refl}
use Rattle.vr_job.proofs.Stamps.{stamp-taken}
use Rattle.vr_job.proofs.laws.each_stamp_is_taken.Goals as goal

pub returns : goal.returns
returns c steps histories gapless this entered stamp low high =
    stamp-taken steps histories gapless this.entry.stamp this entered refl stamp low high
