-- The words of a command one by one: names and numbers. The rules are this project's own.
use Rattle.std.specs.Prelude.{ℕ, Bool, false, not, ◌&&◌, ◌||◌, ◌==◌, nat_le, List, [], ◌∷◌}
use Rattle.std.specs.Prelude.{length, codes, bytes_eq}
use Rattle.std.specs.Str.{all_ascii_digits}
use Rattle.vr_text.specs.Number.{number_of}

-- the word begins with `-`
abbrev pub is_dashed : List ℕ → Bool
is_dashed [] = false
is_dashed (b ∷ bs) = b == 45

-- the word may name a directory
abbrev pub is_name : List ℕ → Bool
is_name word = not (is_dashed word)

-- the word may name a file or a directory, or is `-` itself
abbrev pub is_name_or_dash : List ℕ → Bool
is_name_or_dash word = is_name word || bytes_eq word (codes "-")

-- 1 to 10 digits
abbrev pub is_numeral : List ℕ → Bool
is_numeral word =
    not (length word == 0) && nat_le (length word) 10 && all_ascii_digits word

-- they write how many volumes there may be: 1 to 16
abbrev pub is_count : List ℕ → Bool
is_count word = is_numeral word && nat_le 1 (number_of word) && nat_le (number_of word) 16
