-- Numbers that std parses.
use Rattle.std.proofs.Common.{◌≡◌, ℕ, ◌<◌, ◌^◌, List, Option, Some, None, Result, Ok, IfNone, arith}
use Rattle.std.specs.Str.Parse.{ParsesUnsigned, AllDigits, digits_value}
use Rattle.std.proofs.lemmas.Str.Parse.{IsNumeralModel, numerals_by_value, tells_digits}
use Rattle.std.proofs.lemmas.Str.Parse.{parse_gives, digits_value_short}
use Rattle.vr_text.specs.Number.{IsNumber, number_of}

own : IsNumeralModel (AllDigits 10) (digits_value 10)
own = numerals_by_value (AllDigits 10) tells_digits

-- a number is read as its value
pub parse-number : {E : Type 0} (text : List ℕ) (r : Result ℕ E) → ParsesUnsigned 64 10 text r
    → IsNumber text → r ≡ Ok (number_of text)
parse-number text r parses number =
    let short : digits_value 10 text < 10 ^ 19 =
    digits_value_short own text 19 number.0.1 number.1 in
    parse_gives own 64 text r parses number.0.1 number.0.0 (omega arith)

-- what has a value wherever a fact holds lacks one only where it doesn't
pub none_unless : (r : Option ℕ) (P : Type 0) (value : ℕ) → (P → r ≡ Some value) → IfNone r (¬ P)
none_unless None P value each = λ p. let e : None ≡ Some value = each p in cc
none_unless (Some x) P value each = tt
