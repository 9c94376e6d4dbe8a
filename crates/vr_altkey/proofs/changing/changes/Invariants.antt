use Rattle.std.proofs.Common.{◌≡◌, take}
use Rattle.std.specs.List.{flat_map}
use Rattle.std.specs.Option.{option_copied}
use Rattle.vr_altkey.specs.Changes.{changes_in}
use Rattle.vr_altkey.proofs.changing.changes.Given as goal

-- the changes of the alternate indexes so far
abbrev pub invariant-loop-def : goal.invariant-loop-def
invariant-loop-def l =
    l.changes ≡ flat_map (changes_in l.place (option_copied l.old) (option_copied l.new))
    (take l.def-index l.def-items)
