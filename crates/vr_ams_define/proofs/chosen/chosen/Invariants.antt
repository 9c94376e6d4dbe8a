use Rattle.std.proofs.Common.{◌≡◌, ◌-◌}
use Rattle.std.specs.List.{find, range_with_len}
use Rattle.vr_ams_define.specs.Chosen.{chosen, may_define_on}
use Rattle.vr_ams_define.proofs.chosen.chosen.Given as goal

-- the numbers that are left give the answer
abbrev pub invariant-loop-number : goal.invariant-loop-number
invariant-loop-number l =
    find (may_define_on l.volume) (range_with_len l.number (l.count - l.number))
    ≡ chosen l.fn.count l.fn.volume
