use Rattle.std.proofs.Common.{◌≡◌, ◌++◌, map, take}
use Rattle.vr_trace.specs.Numbering.{numbered_of, with_volume}
use Rattle.vr_trace.proofs.merging.number_one.Given as goal

-- the entries so far are added
abbrev pub invariant-loop-entry : goal.invariant-loop-entry
invariant-loop-entry l = map numbered_of l.entries.items ≡ map numbered_of l.fn.entries.items
    ++ map (with_volume l.volume) (take l.entry-index l.history)
