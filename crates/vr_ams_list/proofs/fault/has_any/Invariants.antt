use Rattle.std.proofs.Common.{◌≡◌, drop}
use Rattle.vr_ams_list.specs.Faults.{has_any}
use Rattle.vr_ams_list.proofs.fault.has_any.Given as goal

-- the names that are left give the answer
abbrev pub invariant-loop-name : goal.invariant-loop-name
invariant-loop-name g l =
    has_any (g.V.ShownVolume.shown l.volume) (drop l.name-index l.names)
    ≡ has_any (g.V.ShownVolume.shown l.fn.volume) l.fn.names
