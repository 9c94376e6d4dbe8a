use Rattle.std.proofs.Common.{ℕ, ◌<◌, get_or}
use Rattle.std.specs.Char.{digit_value}
use Rattle.vr_text.proofs.literal.first_bad_digit.Given as goal

-- each byte before is a digit
abbrev pub invariant-loop-at : goal.invariant-loop-at
invariant-loop-at l = (i : ℕ) → i < l.at → digit_value (get_or l.digits i 0) < 16
