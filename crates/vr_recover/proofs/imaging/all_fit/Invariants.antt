use Rattle.std.proofs.Common.{take}
use Rattle.std.specs.Prelude.{All}
use Rattle.vr_part.specs.Any.{shape_any}
use Rattle.vr_part.specs.declared.any.AnyPart.{AnyPart}
use Rattle.vr_volume.specs.PutBack.{images_of}
use Rattle.vr_recover.specs.Undone.{FitsPart}
use Rattle.vr_recover.proofs.imaging.all_fit.Given as goal

abbrev pub invariant-loop-part : goal.invariant-loop-part
invariant-loop-part l = All (λ (part : AnyPart). All (FitsPart (shape_any part))
    (images_of l.log.records)) (take l.part-index l.parts)
