-- How PRINT shows some bytes: as characters and as hexadecimal digits, after Access Method Services
-- Commands. Which characters can be printed is this project's own.
use Rattle.std.specs.Prelude.{ℕ, ◌-◌, if◌then◌else◌, List, ◌++◌, length, map, replicate, drop}
use Rattle.std.specs.Int.{w64, to_be_bytes}
use Rattle.std.specs.List.{flat_map}
use Rattle.vr_text.specs.Literal.{digit_pair, is_printable}

-- a byte as a character: a period stands for one that can't be printed
abbrev pub character : ℕ → ℕ
character byte = if is_printable byte then byte else 46

abbrev pub characters : List ℕ → List ℕ
characters bytes = map character bytes

-- each byte as two digits in upper case
abbrev pub digits : List ℕ → List ℕ
digits bytes = flat_map digit_pair bytes

-- an offset in six digits: its low three bytes
abbrev pub offset_digits : ℕ → List ℕ
offset_digits offset = digits (drop 5 (to_be_bytes w64 offset))

-- a text, and blanks up to a size
abbrev pub padded : ℕ → List ℕ → List ℕ
padded size text = text ++ replicate (size - length text) 32
