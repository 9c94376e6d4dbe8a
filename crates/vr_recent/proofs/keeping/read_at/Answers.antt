use Rattle.std.proofs.Common.{refl}
use Rattle.vr_recent.proofs.Buffers.{of_set}
use Rattle.vr_recent.proofs.keeping.read_at.Goals as goal

pub returns-in-Ok-clause-ok : goal.returns-in-Ok-clause-ok
returns-in-Ok-clause-ok g c = record {
  buffer = c.read.new.self;
  has = c.in-Ok.ensures.ok;
  is = refl;
}

pub returns-in-Ok-clause-of : goal.returns-in-Ok-clause-of
returns-in-Ok-clause-of g c = of_set g.D.BlockDevice.tells
    (g.D.BlockDevice.seen c.args.device.now) (g.D.BlockDevice.seen c.read.new.device)
    c.args.buffers.now c.args.place c.read.new.self c.read.ensures.after c.requires.of
    c.read.ensures.of

pub returns-in-Err-clause-err : goal.returns-in-Err-clause-err
returns-in-Err-clause-err g c = record {
  buffer = c.read.new.self;
  has = c.in-Err.ensures.err;
  is = refl;
}

pub returns-in-Err-clause-of : goal.returns-in-Err-clause-of
returns-in-Err-clause-of g c = of_set g.D.BlockDevice.tells
    (g.D.BlockDevice.seen c.args.device.now) (g.D.BlockDevice.seen c.read.new.device)
    c.args.buffers.now c.args.place c.read.new.self c.read.ensures.after c.requires.of
    c.read.ensures.of
