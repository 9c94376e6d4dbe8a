use Rattle.std.proofs.Common.{◌≡◌, ◌++◌, flat_map, map}
use Rattle.std.specs.List.{range_with_len}
use Rattle.vr_ams_print.specs.Lines.{chunk_at, line_of}
use Rattle.vr_ams_print.proofs.lines.write_lines.Given as goal

-- the lines of the chunks so far are written
abbrev pub invariant-loop-number : goal.invariant-loop-number
invariant-loop-number l = l.out ≡ l.fn.out
    ++ flat_map (line_of l.form) (map (chunk_at l.size l.bytes) (range_with_len 0 l.number))
