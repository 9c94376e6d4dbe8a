use Rattle.std.proofs.Common.{◌≡◌, drop, map}
use Rattle.vr_ams_list.specs.Faults.{has_stopped}
use Rattle.vr_ams_list.proofs.fault.has_stopped.Given as goal

-- the volumes that are left give the answer
abbrev pub invariant-loop-volume : goal.invariant-loop-volume
invariant-loop-volume g l =
    has_stopped (map g.V.ShownVolume.shown (drop l.volume-index l.volumes)) l.names
    ≡ has_stopped (map g.V.ShownVolume.shown l.fn.volumes) l.fn.names
