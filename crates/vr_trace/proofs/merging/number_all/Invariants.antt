use Rattle.std.proofs.Common.{◌≡◌, ◌++◌, map, take}
use Rattle.vr_history.specs.Merged.{numbered_from}
use Rattle.vr_trace.specs.Numbering.{numbered_of}
use Rattle.vr_trace.specs.Volumes.{entries_of}
use Rattle.vr_trace.proofs.merging.number_all.Given as goal

-- the entries of the volumes so far are added
abbrev pub invariant-loop-volume : goal.invariant-loop-volume
invariant-loop-volume l = map numbered_of l.entries.items ≡ map numbered_of l.fn.entries.items
    ++ numbered_from 0 (entries_of (take l.volume l.histories))
