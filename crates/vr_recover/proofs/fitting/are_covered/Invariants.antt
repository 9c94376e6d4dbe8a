use Rattle.std.proofs.Common.{map, take}
use Rattle.std.specs.Prelude.{All, IfSome}
use Rattle.vr_part.specs.Any.{shape_any}
use Rattle.vr_log.specs.Live.{live_in}
use Rattle.vr_log.specs.declared.record.LogRecord.{LogRecord}
use Rattle.vr_volume.specs.PutBack.{image_in}
use Rattle.vr_recover.specs.Undone.{IsCovered}
use Rattle.vr_recover.proofs.fitting.are_covered.Given as goal

abbrev pub invariant-loop-rec : goal.invariant-loop-rec
invariant-loop-rec l = All (λ (rec : LogRecord). IfSome (image_in (live_in l.log.records) rec)
    (IsCovered (map shape_any l.parts))) (take l.rec-index l.records)
