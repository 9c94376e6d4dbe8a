use Rattle.vr_device.proofs.WriteAhead.{cleared}
use Rattle.vr_device.proofs.write_ahead.clear.Goals as goal

pub returns-clause-kept : goal.returns-clause-kept
returns-clause-kept c = cleared c.args.entry.now
