use Rattle.std.proofs.Common.{◌≡◌, ◌++◌, flat_map, map}
use Rattle.std.specs.Fork.{slice_chunk}
use Rattle.std.specs.List.{range_with_len}
use Rattle.vr_ams_print.specs.Lines.{group}
use Rattle.vr_ams_print.proofs.lines.write_groups.Given as goal

-- the groups so far are written
abbrev pub invariant-loop-number : goal.invariant-loop-number
invariant-loop-number l =
    l.out ≡ l.fn.out ++ flat_map group (map (slice_chunk l.bytes 4) (range_with_len 0 l.number))
