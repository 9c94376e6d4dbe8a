use Rattle.std.proofs.Common.{◌≡◌, false, subst}
use Rattle.std.specs.Prelude.{IfOk}
use Rattle.vr_event.specs.Volume.{VolumeNow}
use Rattle.vr_job.specs.Going.{Follows}
use Rattle.vr_job.specs.Serving.{IsNearerFor}
use Rattle.vr_job.proofs.serving.ServingServed.answer.Goals as goal

pub returns-clause-follows : goal.returns-clause-follows
returns-clause-follows g c =
    let D = g.D.BlockDevice in
    subst (λ (old : VolumeNow g.row.D.Denot). Follows D.tells D.seen D.faults old
    c.serve.new.volume) c.self.view_is c.serve.ensures.follows

pub returns-clause-nearer : goal.returns-clause-nearer
returns-clause-nearer g c =
    let D = g.D.BlockDevice in
    subst (λ (old : VolumeNow g.row.D.Denot). IfOk c.serve.result
    (λ done. done ≡ false → IsNearerFor D.tells old c.serve.new.volume c.args.deck)) c.self.view_is
    c.serve.ensures.nearer
