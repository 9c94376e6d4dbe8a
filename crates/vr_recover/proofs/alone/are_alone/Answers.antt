use Rattle.std.proofs.Common.{subst, sym}
use Rattle.vr_volume.specs.PutBack.{images_of}
use Rattle.vr_recover.specs.Keys.{AllDiffer}
use Rattle.vr_recover.proofs.Differing.{alone-differ, differ-alone}
use Rattle.vr_recover.proofs.alone.are_alone.Goals as goal

pub returns : goal.returns
returns c =
    let images = images_of c.args.log.now.records in (
      λ is. differ-alone images
          (subst AllDiffer c.in_ok-keys.ensures (c.all_differ-differ.ensures.0 is)),
      λ alone. c.all_differ-differ.ensures.1
          (subst AllDiffer (sym c.in_ok-keys.ensures) (alone-differ images alone)),
    )
