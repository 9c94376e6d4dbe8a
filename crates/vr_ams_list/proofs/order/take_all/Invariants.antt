use Rattle.std.proofs.Common.{◌≡◌, ◌++◌, drop, map}
use Rattle.std.specs.List.{filter}
use Rattle.vr_ams_list.specs.Held.{held_entries}
use Rattle.vr_ams_list.specs.Listing.{entries_of, is_listed, listed_from}
use Rattle.vr_ams_list.proofs.order.take_all.Given as goal

-- the listed entries of the volumes that are left are yet to be added
abbrev pub invariant-loop-number : goal.invariant-loop-number
invariant-loop-number g l = held_entries l.entries.items ++ filter (is_listed l.names)
    (listed_from l.number (map g.V.ShownVolume.shown (drop l.number l.volumes)))
    ≡ held_entries l.fn.entries.items ++ filter (is_listed l.fn.names)
    (entries_of (map g.V.ShownVolume.shown l.fn.volumes))
