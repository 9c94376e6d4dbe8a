use Rattle.std.proofs.Common.{◌≡◌, drop, map}
use Rattle.vr_ams_list.specs.Faults.{is_missing}
use Rattle.vr_ams_list.proofs.fault.is_missing.Given as goal

-- the names that are left give the answer
abbrev pub invariant-loop-name : goal.invariant-loop-name
invariant-loop-name g l =
    is_missing (map g.V.ShownVolume.shown l.volumes) (drop l.name-index l.names)
    ≡ is_missing (map g.V.ShownVolume.shown l.fn.volumes) l.fn.names
