use Rattle.std.proofs.Common.{subst}
use Rattle.vr_event.specs.Volume.{VolumeNow}
use Rattle.vr_job.specs.Going.{Follows}
use Rattle.vr_job.proofs.serving.ServingOwnedVolume.edit.Goals as goal

pub returns-clause-goes : goal.returns-clause-goes
returns-clause-goes g c =
    let D = g.D.BlockDevice in
    subst (λ (old : VolumeNow g.row.D.Denot). Follows D.tells D.seen D.faults old
    c.edit_catalog.new.volume) c.self.view_is c.edit_catalog.ensures.follows
