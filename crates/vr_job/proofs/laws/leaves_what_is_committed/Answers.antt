use Rattle.std.proofs.Common.{[], ⊎_elim, inl, inr}
use Rattle.std.specs.Prelude.{◌⊎◌}
use Rattle.vr_types.specs.Image.{Image}
use Rattle.vr_types.specs.Seen.{Left}
use Rattle.vr_types.proofs.CallerLemmas.{guards-weaken}
use Rattle.vr_event.specs.Opening.{owned_in}
use Rattle.vr_recover.specs.Recovered.{KeepsAll}
use Rattle.vr_volume.specs.PutBack.{images_of}
use Rattle.vr_job.specs.Committed.{IsCommittedBy}
use Rattle.vr_job.specs.Crash.{IsLeftBy}
use Rattle.vr_job.specs.VolumeRun.{opening_of}
use Rattle.vr_job.proofs.Committed.{has-committed}
use Rattle.vr_job.proofs.RunCommitted.{left-committed, opening-committed, while-committed}
use Rattle.vr_job.proofs.laws.leaves_what_is_committed.Goals as goal

pub returns-clause-moments : goal.returns-clause-moments
returns-clause-moments g c number shape catalog end entries old ended new run =
    let seen = g.D.BlockDevice.seen in
    let opening = opening_of run.contents run.owners in
    guards-weaken (seen old) (seen new)
    (λ (image : Image). Left (seen old) image
    ⊎ KeepsAll run.geometry number (images_of run.whole.log.records) run.contents image
    ⊎ IsLeftBy run.geometry number opening entries image)
    (λ (image : Image). Left (seen old) image
    ⊎ IsCommittedBy run.geometry number catalog opening entries image) run.moments
    (λ image is. ⊎_elim (λ before. inl before) (λ later. inr (⊎_elim
    (λ opens. opening-committed run.geometry number catalog run.contents (owned_in run.owners)
    run.catalog_is entries run.legal.steps run.ascends run.keeps_catalog image opens.items.recovers)
    (λ left. left-committed run.geometry number catalog run.contents (owned_in run.owners)
    run.catalog_is entries run.legal.steps run.ascends run.keeps_catalog image left) later)) is)

pub returns-clause-end : goal.returns-clause-end
returns-clause-end g c number shape catalog end entries old ended new run going image left =
    has-committed run.geometry run.contents (owned_in run.owners) entries run.legal.steps
    run.ascends number catalog run.catalog_is run.keeps_catalog [] image
    (run.kept going image left).recovers

pub returns-clause-stopped : goal.returns-clause-stopped
returns-clause-stopped g c number shape catalog end entries old ended new run stops image left =
    let stop = run.stopped stops in
    while-committed run.geometry number catalog run.contents (owned_in run.owners) run.catalog_is
    entries run.legal.steps run.ascends run.keeps_catalog stop.before stop.made stop.later image
    stop.entries_are (stop.left image left)
