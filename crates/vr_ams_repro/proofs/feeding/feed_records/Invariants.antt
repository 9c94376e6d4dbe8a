use Rattle.std.proofs.Common.{take}
use Rattle.vr_ams_repro.specs.Fed.{AreFed}
use Rattle.vr_ams_repro.specs.Steps.{IsStill, WentOn}
use Rattle.vr_ams_repro.proofs.feeding.feed_records.Given as goal

-- the records so far were put
abbrev pub invariant-loop-one : goal.invariant-loop-one
invariant-loop-one g l = record {
  fed : AreFed g.V.OwnedVolume.answers g.V.FilledVolume.replies l.load l.fn.progress l.fn.volume
      (take l.one-index l.records) l.progress l.volume;
  still : IsStill l.progress.fault (g.V.ShownVolume.shown l.fn.volume)
      (g.V.ShownVolume.shown l.volume);
  went : WentOn g.V.OwnedVolume.geometry g.V.OwnedVolume.history g.V.OwnedVolume.goes l.load.line
      l.after l.fn.volume l.volume;
}
