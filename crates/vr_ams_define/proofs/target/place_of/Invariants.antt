use Rattle.std.proofs.Common.{map}
use Rattle.vr_ams_define.proofs.Targets.{AreWithout}
use Rattle.vr_ams_define.proofs.target.place_of.Given as goal

-- the volumes so far don't have the name
abbrev pub invariant-loop-place : goal.invariant-loop-place
invariant-loop-place g l = AreWithout (map g.V.ShownVolume.shown l.volumes) l.name l.place
