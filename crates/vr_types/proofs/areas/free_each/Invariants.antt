use Rattle.std.proofs.Common.{◌≡◌, ◌++◌, map, drop, take}
use Rattle.vr_types.specs.Space.{freed}
use Rattle.vr_types.proofs.areas.free_each.Given as goal

-- the areas before the index have been looked at, and the others are as they were
abbrev pub invariant-loop-owner : goal.invariant-loop-owner
invariant-loop-owner l =
    l.owners ≡ map (freed l.part) (take l.owner-index l.fn.owners) ++ drop l.owner-index l.fn.owners
