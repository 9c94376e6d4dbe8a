use Rattle.std.proofs.Common.{◌≡◌, ◌++◌, drop}
use Rattle.std.specs.List.{flat_map}
use Rattle.vr_ams_define.specs.Deleted.{deleted_line}
use Rattle.vr_ams_define.proofs.gone.write_gone.Given as goal

-- with those of the entries that are left they are all
abbrev pub invariant-loop-entry : goal.invariant-loop-entry
invariant-loop-entry l =
    l.out ++ flat_map deleted_line (drop l.entry-index l.gone)
    ≡ l.fn.out ++ flat_map deleted_line l.fn.gone
