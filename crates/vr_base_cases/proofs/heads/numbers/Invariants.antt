use Rattle.std.proofs.Common.{◌≡◌, take}
use Rattle.vr_base_cases.proofs.heads.numbers.Given as goal

abbrev pub invariant-loop-j : goal.invariant-loop-j
invariant-loop-j l = l.out.items ≡ take l.j l.entry.intervals
