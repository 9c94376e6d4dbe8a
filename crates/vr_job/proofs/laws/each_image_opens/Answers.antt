use Rattle.std.proofs.Common.{⊎_elim, inl, inr}
use Rattle.std.specs.Prelude.{◌⊎◌}
use Rattle.vr_types.specs.Image.{Image}
use Rattle.vr_types.specs.Seen.{Left}
use Rattle.vr_types.proofs.CallerLemmas.{guards-weaken}
use Rattle.vr_event.specs.Opening.{owned_in}
use Rattle.vr_recover.specs.Recovered.{KeepsAll}
use Rattle.vr_volume.specs.PutBack.{images_of}
use Rattle.vr_job.specs.Crash.{IsLeftBy}
use Rattle.vr_job.specs.OpensAgain.{OpensAgain}
use Rattle.vr_job.specs.VolumeRun.{opening_of}
use Rattle.vr_job.proofs.FormattedVolumes.{entries-open, first-opens}
use Rattle.vr_job.proofs.ServedRuns.{left-opens, opening-opens}
use Rattle.vr_job.proofs.laws.each_image_opens.Goals as goal

pub returns-clause-run : goal.returns-clause-run
returns-clause-run g c number shape catalog end entries old ended new run =
    let seen = g.D.BlockDevice.seen in
    guards-weaken (seen run.opened) (seen new)
    (IsLeftBy run.geometry number (opening_of run.contents run.owners) entries)
    (OpensAgain seen run.geometry number) run.leaves
    (λ image left. left-opens seen run.geometry number run.volume.allowed catalog run.contents
    (owned_in run.owners) run.catalog_is run.served entries run.keeps_catalog image left)

pub returns-clause-opening : goal.returns-clause-opening
returns-clause-opening g c number shape catalog end entries old ended new run =
    let seen = g.D.BlockDevice.seen in
    guards-weaken (seen old) (seen run.opened)
    (λ (image : Image). Left (seen old) image
    ⊎ KeepsAll run.geometry number (images_of run.whole.log.records) run.contents image)
    (λ (image : Image). Left (seen old) image ⊎ OpensAgain seen run.geometry number image)
    run.opens
    (λ image is. ⊎_elim (λ before. inl before) (λ keeps. inr (opening-opens seen run.geometry
    number run.volume.allowed catalog run.contents (owned_in run.owners) run.catalog_is run.served
    image keeps.items.recovers)) is)

pub returns-clause-formatted : goal.returns-clause-formatted
returns-clause-formatted g c geometry number image allowed formatted =
    first-opens g.D.BlockDevice.seen geometry number allowed image formatted

pub returns-clause-formatted_with : goal.returns-clause-formatted_with
returns-clause-formatted_with g c geometry number entries image allowed formatted =
    entries-open g.D.BlockDevice.seen geometry number allowed entries image formatted
