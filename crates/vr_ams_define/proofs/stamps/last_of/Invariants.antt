use Rattle.std.proofs.Common.{◌≡◌, drop, max}
use Rattle.vr_trace.specs.Growing.{greatest_last}
use Rattle.vr_ams_define.proofs.stamps.last_of.Given as goal

-- the volumes that are left give the rest of the answer
abbrev pub invariant-loop-volume : goal.invariant-loop-volume
invariant-loop-volume g l =
    max l.last (greatest_last g.V.OwnedVolume.history (drop l.volume-index l.volumes))
    ≡ greatest_last g.V.OwnedVolume.history l.fn.volumes
