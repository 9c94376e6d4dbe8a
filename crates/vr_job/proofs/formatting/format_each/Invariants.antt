use Rattle.vr_job.specs.Formats.{AreFormattedTo}
use Rattle.vr_job.proofs.formatting.format_each.Given as goal

abbrev pub invariant-loop-at : goal.invariant-loop-at
invariant-loop-at g l =
    AreFormattedTo g.D.BlockDevice.tells g.D.BlockDevice.seen l.log l.area l.at l.fn.devices
    l.devices
