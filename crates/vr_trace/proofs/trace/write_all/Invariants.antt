use Rattle.std.proofs.Common.{◌≡◌, ◌++◌, map, take}
use Rattle.std.specs.List.{flat_map}
use Rattle.vr_trace.specs.Numbering.{numbered_of}
use Rattle.vr_trace.specs.TraceLines.{trace_line}
use Rattle.vr_trace.proofs.trace.write_all.Given as goal

-- the lines so far are those of the entries so far
abbrev pub invariant-loop-this : goal.invariant-loop-this
invariant-loop-this l = l.out ≡ l.fn.out
    ++ flat_map trace_line (map numbered_of (take l.this-index l.entries))
