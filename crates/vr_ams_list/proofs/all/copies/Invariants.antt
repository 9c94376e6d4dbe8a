use Rattle.std.proofs.Common.{◌≡◌, take}
use Rattle.vr_ams_list.specs.Held.{held_entries}
use Rattle.vr_ams_list.proofs.all.copies.Given as goal

-- the copies so far are of the entries so far
abbrev pub invariant-loop-held : goal.invariant-loop-held
invariant-loop-held l = l.copies.items ≡ held_entries (take l.held-index l.entries)
