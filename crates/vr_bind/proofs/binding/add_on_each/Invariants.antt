use Rattle.std.proofs.Common.{◌≡◌, ◌++◌, take}
use Rattle.vr_bind.specs.Bound.{on_each}
use Rattle.vr_bind.proofs.binding.add_on_each.Given as goal

-- the requests on the volumes so far
abbrev pub invariant-loop-volume : goal.invariant-loop-volume
invariant-loop-volume l =
    l.requests ≡ l.fn.requests ++ on_each (take l.volume-index l.volumes) l.line l.request
