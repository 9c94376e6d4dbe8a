use Rattle.std.proofs.Common.{◌≡◌, ◌++◌, ◌-◌, filter}
use Rattle.std.specs.List.{range_with_len}
use Rattle.vr_bind.specs.Bound.{is_named, volumes_of}
use Rattle.vr_bind.proofs.binding.volumes_of.Given as goal

-- those found so far, and those that are left
abbrev pub invariant-loop-volume : goal.invariant-loop-volume
invariant-loop-volume l =
    l.volumes.items
    ++ filter (is_named l.files) (range_with_len l.volume (l.volume-end - l.volume))
    ≡ volumes_of l.fn.count l.fn.files
