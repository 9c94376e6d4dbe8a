use Rattle.std.proofs.Common.{◌≡◌, [], ◌∷◌, map}
use Rattle.vr_ams_define.specs.Grown.{AreRunOn}
use Rattle.vr_ams_print.specs.Steps.{last_key}
use Rattle.vr_ams_repro.specs.Pieces.{ArePieces}
use Rattle.vr_ams_repro.specs.Steps.{IsStill}
use Rattle.vr_ams_repro.proofs.reading.read_through.Given as goal

-- the pieces so far were put
abbrev pub invariant-loop-turn : goal.invariant-loop-turn
invariant-loop-turn g l = record {
  put : ArePieces g.V.OwnedVolume.answers g.V.FilledVolume.replies l.load l.source
      (last_key l.to) l.fn.cursor l.fn.progress l.fn.volumes l.cursor l.progress l.volumes;
  still : IsStill l.progress.fault (map g.V.ShownVolume.shown l.fn.volumes)
      (map g.V.ShownVolume.shown l.volumes);
  ran : AreRunOn g.V.OwnedVolume.history g.V.OwnedVolume.goes (l.load.line ∷ []) l.fn.volumes
      l.volumes;
  geometry : map g.V.OwnedVolume.geometry l.volumes
      ≡ map g.V.OwnedVolume.geometry l.fn.volumes;
}
