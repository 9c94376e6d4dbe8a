-- Words of a deck as numbers and literals, which are those of Access Method Services Commands.
use Rattle.std.specs.Prelude.{ℕ, ◌+◌, ◌*◌, ◌&&◌, ◌==◌, nat_le, nat_lt, List, [], ◌∷◌, Option, Some, None}
use Rattle.std.specs.Prelude.{if◌then◌else◌}
use Rattle.std.specs.Option.{option_map}
use Rattle.std.specs.Char.{digit_value}
use Rattle.vr_text.specs.Words.{is_plain, number_in}

-- a number that is at most 4,294,967,295
abbrev pub if_small : Option ℕ → Option ℕ
if_small None = None
if_small (Some n) = if nat_le n 4294967295 then Some n else None

-- the number that a word writes, 0 to 4,294,967,295
abbrev pub small_number_in : List ℕ → Option ℕ
small_number_in text = if_small (number_in text)

-- a byte before others, where there are some
abbrev pub onto : ℕ → Option (List ℕ) → Option (List ℕ)
onto b bytes = option_map (λ bs. b ∷ bs) bytes

-- what follows C', up to the quote at the end: each other quote is doubled
abbrev pub characters_in : List ℕ → Option (List ℕ)
characters_in [] = None
characters_in (b ∷ []) = if b == 39 then Some [] else None
characters_in (b ∷ c ∷ cs) =
    if b == 39 then (if c == 39 then onto 39 (characters_in cs) else None) else onto b
    (characters_in (c ∷ cs))

-- what follows X', up to the quote at the end: two hexadecimal digits for each byte
abbrev pub digits_in : List ℕ → Option (List ℕ)
digits_in [] = None
digits_in (b ∷ []) = if b == 39 then Some [] else None
digits_in (h ∷ l ∷ ds) =
    if nat_lt (digit_value h) 16 && nat_lt (digit_value l) 16 then onto
    (16 * digit_value h + digit_value l) (digits_in ds) else None

-- the bytes of a literal
abbrev pub form_in : List ℕ → Option (List ℕ)
form_in (a ∷ b ∷ rest) =
    if b == 39 then (if a == 67 then characters_in rest else (if a == 88 then digits_in rest else
    None)) else None
form_in text = None

abbrev pub literal_in : List ℕ → Option (List ℕ)
literal_in text = if is_plain text then form_in text else None
