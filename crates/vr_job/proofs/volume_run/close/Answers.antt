use Rattle.std.proofs.Common.{◌∙◌, arith, refl, sym}
use Rattle.std.proofs.lemmas.Bool.{true≢false}
use Rattle.vr_types.proofs.CallerLemmas.{keeps-none}
use Rattle.vr_job.proofs.volume_run.close.Goals as goal

pub returns-then-stopped : goal.returns-then-stopped
returns-then-stopped g c =
    let D = g.D.BlockDevice in
    record {
      keeps = keeps-none D.tells (D.seen c.args.device.now)
          (λ told image left. g.met.D.BlockDevice.images_may c.args.device.now image told left);
      counts = record { reads = omega arith; writes = omega arith };
      ok = refl;
      fails = λ failed. absurd cc;
      forced = λ told going. absurd (true≢false (sym c.if-stopped.true ∙ going));
    }
