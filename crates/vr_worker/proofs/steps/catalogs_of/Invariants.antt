use Rattle.std.proofs.Common.{◌≡◌, map, take}
use Rattle.vr_worker.specs.Asks.{catalogs_of}
use Rattle.vr_worker.proofs.steps.catalogs_of.Given as goal

-- the catalogs of the volumes so far
abbrev pub invariant-loop-volume : goal.invariant-loop-volume
invariant-loop-volume g l = map (λ one. one.now) l.catalogs.items
    ≡ catalogs_of g.V.ShownVolume.shown (take l.volume-index l.volumes)
