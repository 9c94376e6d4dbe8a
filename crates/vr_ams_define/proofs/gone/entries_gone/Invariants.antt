use Rattle.std.proofs.Common.{◌≡◌, ◌++◌, drop}
use Rattle.std.specs.List.{filter_map}
use Rattle.vr_ams_define.specs.Deleted.{entry_gone}
use Rattle.vr_ams_define.proofs.gone.entries_gone.Given as goal

-- with those of the changes that are left they are all
abbrev pub invariant-loop-change : goal.invariant-loop-change
invariant-loop-change l =
    l.gone ++ filter_map (entry_gone l.catalog) (drop l.change-index l.changes)
    ≡ filter_map (entry_gone l.fn.catalog) l.fn.changes
