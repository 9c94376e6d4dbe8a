use Rattle.std.proofs.Common.{arith, length, refl}
use Rattle.std.proofs.lemmas.Option.{slice_get_read, slice_get_within}
use Rattle.vr_job.proofs.Devices.{one-more-allowed}
use Rattle.vr_job.proofs.formatting.first_forbidden.Goals as goal

pub loop-at-init : goal.loop-at-init
loop-at-init g c = λ at device below there. absurd (omega (arith, below))

pub returns-then-not-is_allowed-clause-some : goal.returns-then-not-is_allowed-clause-some
returns-then-not-is_allowed-clause-some g c =
    record {
      device = c.index-devices-at.result;
      there = slice_get_read c.args.devices.now (length c.args.devices.now) c.loop-at.at
          c.index-devices-at.result refl c.loop-at-test.true c.index-devices-at.is;
      forbidden = c.is_allowed.ensures.no c.if-not-is_allowed.true;
      first = c.loop-at.invariant;
    }

pub loop-at-preserved : goal.loop-at-preserved
loop-at-preserved g c =
    one-more-allowed g.D.BlockDevice.tells g.D.BlockDevice.seen c.args.log c.args.area c.loop-at.at c.args.devices.now
    c.index-devices-at.result c.loop-at-test.true c.index-devices-at.is
    (c.is_allowed.ensures.yes c.if-not-is_allowed.false) c.loop-at.invariant

pub returns-clause-none : goal.returns-clause-none
returns-clause-none g c =
    λ at device there. c.loop-at.invariant at device
    (omega (arith, slice_get_within c.args.devices.now at device there, c.loop-at-test.false)) there
