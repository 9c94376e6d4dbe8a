use Rattle.std.proofs.Common.{◌≡◌, ◌++◌, map, take, drop, true}
use Rattle.vr_browse.specs.Positions.{dropped_by}
use Rattle.vr_browse.proofs.positions.drop_each.Given as goal

-- the files before the index hold nothing, and the others are as they were
abbrev pub invariant-loop-file : goal.invariant-loop-file
invariant-loop-file l =
    l.files ≡ map (dropped_by true) (take l.file-index l.fn.files) ++ drop l.file-index l.fn.files
