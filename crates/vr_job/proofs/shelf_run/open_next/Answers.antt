use Rattle.std.proofs.Common.{◌∙◌, ℕ, refl, subst}
use Rattle.vr_job.specs.VolumeRun.{IsOpen}
use Rattle.vr_job.proofs.shelf_run.open_next.Goals as goal

pub returns-in-Ok-clause-next : goal.returns-in-Ok-clause-next
returns-in-Ok-clause-next g c =
    let D = g.D.BlockDevice in (
      c.in-Ok.volume,
      c.push_reserved.ensures.items,
      refl,
      subst (λ (n : ℕ). IsOpen D.tells D.seen D.faults n c.args.device c.in-Ok.volume)
          (c.len.ensures ∙ c.args.volumes.now.ok.0) c.in-Ok.ensures.open,
    )
