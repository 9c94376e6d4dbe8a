use Rattle.std.proofs.Common.{◌≡◌, take}
use Rattle.std.specs.List.{filter_map}
use Rattle.vr_log.specs.Live.{live_in}
use Rattle.vr_undo.specs.Records.{images_in}
use Rattle.vr_volume.specs.PutBack.{image_in}
use Rattle.vr_recover.proofs.imaging.keep_all.Given as goal

abbrev pub invariant-loop-rec : goal.invariant-loop-rec
invariant-loop-rec l = images_in l.undo
    ≡ filter_map (image_in (live_in l.log.records)) (take l.rec-index l.records)
