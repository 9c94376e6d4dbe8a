use Rattle.vr_resident.proofs.Steps.{forced_through}
use Rattle.vr_resident.proofs.write_back.ResidentBlocks.force.Goals as goal

pub returns-clause-forced : goal.returns-clause-forced
returns-clause-forced g c =
    let seen = g.D.BlockDevice.seen in
    let old = c.self.inside in
    rw (← c.self.view_is)
    (λ told. forced_through c.force.result c.args.list.now (seen old.device)
    (seen c.force.new.device) old.frames c.force.new.frames c.self.invariant.size_is
    c.force.ensures.kept.size_is (c.force.ensures.forced told))
