use Rattle.std.proofs.Common.{subst, sym}
use Rattle.vr_job.specs.VolumeRun.{IsNotOpen}
use Rattle.vr_job.proofs.volume_run.open_blocks.Goals as goal

pub returns-in-Err-clause-not_open : goal.returns-in-Err-clause-not_open
returns-in-Err-clause-not_open g c =
    let D = g.D.BlockDevice in
    subst (λ (device : g.row.D.Denot).
    IsNotOpen D.tells D.seen D.faults c.args.number c.args.blocks device c.in-Err.end)
    (sym c.into_inner.ensures) (record {
      never_fall = c.in-Err.ensures.faults_back;
      line = c.in-Err.ensures.line;
      shown = c.in-Err.ensures.refused;
      kept = c.in-Err.ensures.kept;
      unwritten = c.in-Err.ensures.unwritten;
      cause = c.in-Err.ensures.cause;
      any_moment = c.in-Err.ensures.any_moment_back;
      items = c.in-Err.ensures.items_back;
    })
