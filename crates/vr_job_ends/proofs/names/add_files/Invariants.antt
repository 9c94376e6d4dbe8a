use Rattle.std.proofs.Common.{◌≡◌, ◌++◌, map, take}
use Rattle.vr_job_ends.proofs.names.add_files.Given as goal

-- those so far are added
abbrev pub invariant-loop-file : goal.invariant-loop-file
invariant-loop-file l = l.kept ≡ l.fn.kept ++ map (λ file. file.name) (take l.file-index l.fn.files)
