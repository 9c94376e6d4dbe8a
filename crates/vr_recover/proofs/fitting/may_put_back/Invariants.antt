use Rattle.std.proofs.Common.{take}
use Rattle.std.specs.Prelude.{All, IfSome}
use Rattle.vr_part.specs.Any.{shape_any}
use Rattle.vr_log.specs.Live.{live_in}
use Rattle.vr_log.specs.declared.record.LogRecord.{LogRecord}
use Rattle.vr_volume.specs.PutBack.{image_in}
use Rattle.vr_recover.specs.Undone.{FitsPart}
use Rattle.vr_recover.proofs.fitting.may_put_back.Given as goal

abbrev pub invariant-loop-rec : goal.invariant-loop-rec
invariant-loop-rec l = All (λ (rec : LogRecord). IfSome (image_in (live_in l.log.records) rec)
    (FitsPart (shape_any l.part))) (take l.rec-index l.records)
