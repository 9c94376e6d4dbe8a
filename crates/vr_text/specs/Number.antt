-- Numbers in text are decimal digits without a sign, 1 to 19 of them, so that each fits 64 bits.
-- The rule is this project's own.
use Rattle.std.specs.Prelude.{ℕ, ◌≤◌, List, length}
use Rattle.std.specs.Str.Parse.{IsNumeral, digits_value}

abbrev pub IsNumber : List ℕ → Type 0
IsNumber text = IsNumeral 10 text × (length text ≤ 19)

-- the number that the digits write
abbrev pub number_of : List ℕ → ℕ
number_of text = digits_value 10 text
