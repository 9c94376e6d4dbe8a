use Rattle.std.proofs.Common.{refl, sym}
use Rattle.std.specs.Prelude.{All}
use Rattle.std.proofs.lemmas.Bool.{true≢false}
use Rattle.vr_mount.proofs.Telling.{all_mapped, mapped_all}
use Rattle.vr_part.specs.Any.{shape_any}
use Rattle.vr_part.specs.declared.any.AnyPart.{AnyPart}
use Rattle.vr_space.specs.Part.{Shape}
use Rattle.vr_volume.specs.PutBack.{images_of}
use Rattle.vr_recover.specs.Undone.{FitsPart}
use Rattle.vr_recover.proofs.Keeping.{all-items, at-item, push-item}
use Rattle.vr_recover.proofs.imaging.all_fit.Goals as goal

pub returns-then-not-may_put_back : goal.returns-then-not-may_put_back
returns-then-not-may_put_back c =
    let Fits = λ (shape : Shape). All (FitsPart shape) (images_of c.args.log.now.records) in (
      λ is. absurd (true≢false (sym is)),
      λ all. c.if-not-may_put_back.ensures.1
          (at-item (λ (part : AnyPart). Fits (shape_any part)) c.args.parts.now
          c.loop-part.part-index c.part-item.result c.loop-part-test.true c.part-item.is
          (mapped_all shape_any Fits c.args.parts.now all)),
    )

pub loop-part-preserved : goal.loop-part-preserved
loop-part-preserved c =
    let Fits = λ (part : AnyPart). All (FitsPart (shape_any part))
    (images_of c.args.log.now.records) in
    push-item Fits c.args.parts.now c.loop-part.part-index c.part-item.result
    c.loop-part-test.true c.part-item.is (c.if-not-may_put_back.ensures.0 refl)
    c.loop-part.invariant

pub returns : goal.returns
returns c =
    let Fits = λ (shape : Shape). All (FitsPart shape) (images_of c.args.log.now.records) in (
      λ is. all_mapped shape_any Fits c.args.parts.now
          (all-items (λ (part : AnyPart). Fits (shape_any part)) c.args.parts.now
          c.loop-part.part-index c.loop-part-test.false c.loop-part.invariant),
      λ all. refl,
    )
