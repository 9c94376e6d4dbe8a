use Rattle.std.proofs.Common.{◌≡◌, drop, map}
use Rattle.vr_trace.specs.Shown.{is_known}
use Rattle.vr_trace.proofs.shown.is_known.Given as goal

-- the volumes that are left give the answer
abbrev pub invariant-loop-volume : goal.invariant-loop-volume
invariant-loop-volume g l =
    is_known (map g.V.ShownVolume.shown (drop l.volume-index l.volumes)) l.name
    ≡ is_known (map g.V.ShownVolume.shown l.fn.volumes) l.fn.name
