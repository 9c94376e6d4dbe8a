use Rattle.std.proofs.Common.{◌⊎◌, arith, inl, refl, subst, sym}
use Rattle.vr_types.specs.Image.{Image}
use Rattle.vr_types.specs.Seen.{Left}
use Rattle.vr_types.proofs.CallerLemmas.{guards-start, keeps-none}
use Rattle.vr_volume.specs.Volume.{Recovers}
use Rattle.vr_recover.specs.Opening.{IsLeftOpening}
use Rattle.vr_recover.specs.declared.open_no.OpenNo.TheVariants.{Memory}
use Rattle.vr_job.specs.OpenEnds.{IsMemory}
use Rattle.vr_job.specs.VolumeRun.{IsNotOpen}
use Rattle.vr_job.proofs.Readying.{memory-silent}
use Rattle.vr_trace.specs.declared.ending.EndLine.TheVariants.{NoMemory}
use Rattle.vr_job.proofs.volume_run.open_one.Goals as goal

pub returns-in-Err-clause-not_open : goal.returns-in-Err-clause-not_open
returns-in-Err-clause-not_open g c =
    let D = g.D.BlockDevice in
    let first = c.args.device in
    subst (λ (device : g.row.D.Denot).
    IsNotOpen D.tells D.seen D.faults c.args.number first device NoMemory)
    (sym c.in-Err.ensures.err) (record {
      never_fall = record { reads = omega arith; writes = omega arith };
      line = (Memory, refl);
      shown = λ told. IsMemory refl;
      kept = λ says. absurd (memory-silent c.args.number NoMemory refl says);
      unwritten = λ told none. keeps-none D.tells (D.seen first)
          (λ told image now. g.met.D.BlockDevice.images_may first image told now);
      cause = λ same. absurd cc;
      any_moment = λ told geometry contents is. guards-start (D.seen first)
          (λ (image : Image). Left (D.seen first) image
          ⊎ Recovers geometry c.args.number image contents)
          (λ image at. g.met.D.BlockDevice.images_may first image told at)
          (λ image left. inl left);
      items = λ told geometry contents has. guards-start (D.seen first)
          (IsLeftOpening c.args.number geometry contents (D.seen first) has)
          (λ image at. g.met.D.BlockDevice.images_may first image told at)
          (λ image left. inl left);
    })
