use Rattle.std.proofs.Common.{◌≡◌, ◌-◌}
use Rattle.vr_space.specs.Split.{free_from}
use Rattle.vr_keyed.proofs.Freeing.{AreSingle, intervals_of}
use Rattle.vr_keyed.proofs.room.free_in.Given as goal

abbrev pub invariant-loop-n : goal.invariant-loop-n
invariant-loop-n l = AreSingle l.view.entries
    → free_from (l.limit - l.n) l.n (intervals_of l.view.entries)
    ≡ free_from l.limit 0 (intervals_of l.view.entries)
