use Rattle.std.proofs.Common.{◌≡◌, ◌++◌, take}
use Rattle.std.specs.List.{flat_map}
use Rattle.vr_ams_list.specs.Held.{held_entries}
use Rattle.vr_ams_list.specs.Listing.{name_line}
use Rattle.vr_ams_list.proofs.listing.write_entries.Given as goal

-- the lines so far are those of the entries so far
abbrev pub invariant-loop-held : goal.invariant-loop-held
invariant-loop-held l =
    l.out ≡ l.fn.out ++ flat_map name_line (held_entries (take l.held-index l.entries))
