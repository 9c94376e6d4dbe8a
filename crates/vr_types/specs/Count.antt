-- Counts of faults and numbers of calls. The rules are this project's own.
use Rattle.std.specs.Prelude.{ℕ, ◌+◌, ◌-◌, ◌^◌, min}
use Rattle.vr_types.specs.declared.count.Tally.{Tally}
use Rattle.vr_types.specs.declared.count.Tally.TheVariants.{Zero, After'}

-- how many faults were counted
abbrev pub count_of : Tally → ℕ
count_of Zero = 0
count_of (After' _ before) = count_of before + 1

-- the number that the program shows for a count
abbrev pub shown_of : ℕ → ℕ
shown_of count = min count (2 ^ 64 - 1)

-- calls are numbered from 0: the number of the one after this; those from 2^64 - 1 on share that
-- number
abbrev pub next_call : ℕ → ℕ
next_call call = min (call + 1) (2 ^ 64 - 1)
