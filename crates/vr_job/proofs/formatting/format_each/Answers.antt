use Rattle.std.proofs.Common.{◌<◌, subst, sym}
use Rattle.vr_job.specs.Formats.{IsFresh}
use Rattle.vr_job.proofs.Devices.{one-more-formatted}
use Rattle.vr_job.proofs.formatting.format_each.Goals as goal

pub loop-at-preserved : goal.loop-at-preserved
loop-at-preserved g c =
    one-more-formatted g.D.BlockDevice.tells g.D.BlockDevice.seen c.args.log c.args.area c.loop-at.at
    c.args.devices.now c.loop-at.devices c.format_one.new.device c.loop-at.invariant
    (subst (λ n. c.loop-at.at < n) (sym c.loop-at.auto.devices) c.loop-at-test.true)
    c.index-devices-at.result c.index-devices-at.is
    (subst (λ (first : g.row.D.Denot). IsFresh g.D.BlockDevice.tells g.D.BlockDevice.seen c.args.log
    c.args.area c.loop-at.at first c.format_one.new.device)
    (sym c.index-devices-at.is) c.in_ok-format_one.ensures.fresh)
