use Rattle.std.proofs.Common.{◌≡◌, ◌++◌, take}
use Rattle.std.specs.List.{filter}
use Rattle.vr_ams_list.specs.Held.{held_entries}
use Rattle.vr_ams_list.specs.Listing.{is_listed, listed_on}
use Rattle.vr_ams_list.proofs.order.take_one.Given as goal

-- the listed ones of the entries so far are added
abbrev pub invariant-loop-entry : goal.invariant-loop-entry
invariant-loop-entry l = held_entries l.entries.items ≡ held_entries l.fn.entries.items
    ++ filter (is_listed l.names) (listed_on l.number (take l.entry-index l.catalog))
