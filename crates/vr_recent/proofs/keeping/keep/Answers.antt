use Rattle.std.proofs.Common.{refl, set}
use Rattle.vr_recent.specs.Buffers.{HasBlock}
use Rattle.vr_recent.proofs.Buffers.{fronts_set}
use Rattle.vr_recent.proofs.keeping.keep.Goals as goal

pub returns : goal.returns
returns c = fronts_set (HasBlock c.args.n c.args.bytes.now) c.args.place c.args.buffers.now
    (set c.args.buffers.now c.args.place c.fill.new.self) c.to_front.new.buffers c.requires.place
    (record { buffer = c.fill.new.self; has = c.fill.ensures; is = refl }) c.to_front.ensures
