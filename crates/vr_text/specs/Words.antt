-- Words of a text as names and numbers. Names of data sets are those of Using Data Sets, names of files
-- those of cards of MVS JCL.
use Rattle.std.specs.Prelude.{ℕ, zero, suc, Bool, true, false, not, ◌&&◌, ◌||◌, ◌==◌, nat_le, nat_lt}
use Rattle.std.specs.Prelude.{List, length, slice_index, Option, Some, None, if◌then◌else◌}
use Rattle.std.specs.List.{list_all}
use Rattle.std.specs.Char.{digit_value, is_ascii_alphabetic, is_ascii_digit}
use Rattle.vr_types.specs.Name.{is_right_at, in_capitals}
use Rattle.vr_text.specs.Number.{number_of}

-- characters of ASCII
abbrev pub is_plain : List ℕ → Bool
is_plain text = list_all (λ b. nat_lt b 128) text

-- each byte below n may be where it is in a name
abbrev pub is_right_below : List ℕ → ℕ → Bool
is_right_below text zero = true
is_right_below text (suc n) = is_right_at text n && is_right_below text n

-- the text is the name of a data set: each byte may be where it is, and the name may end there
abbrev pub is_name : List ℕ → Bool
is_name text =
    is_plain text && not (length text == 0) && nat_le (length text) 44
    && is_right_below text (suc (length text))

-- the name, in capitals
abbrev pub name_in : List ℕ → Option (List ℕ)
name_in text = if is_name text then Some (in_capitals text) else None

-- 1 to 19 digits
abbrev pub is_numeral : List ℕ → Bool
is_numeral text =
    is_plain text && not (length text == 0) && nat_le (length text) 19
    && list_all (λ b. nat_lt (digit_value b) 10) text

-- the number that they write
abbrev pub number_in : List ℕ → Option ℕ
number_in text = if is_numeral text then Some (number_of text) else None

-- a letter of either case, or one of the three characters that count as letters: @ # $
abbrev pub is_letter : ℕ → Bool
is_letter b = is_ascii_alphabetic b || b == 64 || b == 35 || b == 36

abbrev pub are_letters : List ℕ → Bool
are_letters name = list_all (λ b. is_letter b || is_ascii_digit b) name

-- the name of a file: 1 to 8 letters and digits, the first not a digit
abbrev pub is_file_name : List ℕ → Bool
is_file_name name =
    if length name == 0 || nat_lt 8 (length name) then false else (is_letter (slice_index name 0)
    && are_letters name)
