use Rattle.std.proofs.Common.{◌≡◌, drop, map}
use Rattle.vr_bind.specs.Named.{file_from}
use Rattle.vr_bind.proofs.named.file_named.Given as goal

-- the name is looked up in the catalogs that are left
abbrev pub invariant-loop-volume : goal.invariant-loop-volume
invariant-loop-volume l =
    file_from l.volume (map (λ c. c.now) (drop l.volume l.catalogs)) l.slot l.name
    ≡ file_from 0 (map (λ c. c.now) l.fn.catalogs) l.fn.slot l.fn.name
