use Rattle.std.proofs.Common.{subst, sym}
use Rattle.vr_recent.specs.Buffers.{AreOf, HoldsBlock, IsOf}
use Rattle.vr_recent.proofs.Buffers.{all_fronted, fronts_set}
use Rattle.vr_recent.proofs.keeping.read_in.Goals as goal

pub returns-in-Ok-clause-ok : goal.returns-in-Ok-clause-ok
returns-in-Ok-clause-ok g c = fronts_set (HoldsBlock c.args.n) c.args.place c.args.buffers.now
    c.read_at.new.buffers c.to_front.new.buffers c.requires.place c.in-Ok.ensures.ok
    c.to_front.ensures

pub returns-in-Ok-clause-of : goal.returns-in-Ok-clause-of
returns-in-Ok-clause-of g c =
    let tells = g.D.BlockDevice.tells in
    let seen = g.D.BlockDevice.seen c.read_at.new.device in
    subst (AreOf tells seen) (sym c.to_front.ensures)
    (all_fronted (IsOf tells seen) c.args.place c.read_at.new.buffers c.read_at.ensures.of)
