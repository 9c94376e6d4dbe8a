use Rattle.std.proofs.Common.{◌≡◌, ◌++◌, drop, map}
use Rattle.vr_bind.specs.Named.{files_from}
use Rattle.vr_bind.proofs.named.files_of.Given as goal

-- those found so far, and those that are left
abbrev pub invariant-loop-slot : goal.invariant-loop-slot
invariant-loop-slot l =
    l.found.items ++ files_from (map (λ c. c.now) l.catalogs) l.slot (drop l.slot l.files)
    ≡ files_from (map (λ c. c.now) l.catalogs) 0 l.fn.files
