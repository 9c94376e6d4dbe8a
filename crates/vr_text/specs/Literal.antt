-- Literals of bytes: C'..' and X'..' of Access Method Services Commands. That the digits of X'..'
-- may be in either case, and which of the two forms is written, are this project's own rules.
use Rattle.std.specs.Prelude.{◌≡◌, ◌≢◌, ℕ, ◌+◌, ◌*◌, ◌/◌, ◌%◌, ◌<◌, ◌≤◌, ◌⊎◌, ⊤, Bool, true, ◌==◌}
use Rattle.std.specs.Prelude.{◌&&◌, if◌then◌else◌, nat_le, List, [], ◌∷◌, ◌++◌, length, codes}
use Rattle.std.specs.Prelude.{slice_index, Contains}
use Rattle.std.specs.Char.{digit_value}
use Rattle.std.specs.Fmt.{digit_glyph}
use Rattle.std.specs.List.{flat_map, list_all}
use Rattle.vr_text.specs.declared.literal.LiteralFault.{LiteralFault}
use Rattle.vr_text.specs.declared.literal.LiteralFault.TheVariants.{Unclosed, Digit, Memory}

-- each quote is doubled
abbrev pub doubled : List ℕ → List ℕ
doubled bytes = flat_map (λ b. if b == 39 then codes "''" else b ∷ []) bytes

-- the bytes as characters, each quote doubled
abbrev pub character_form : List ℕ → List ℕ
character_form bytes = codes "C'" ++ doubled bytes ++ codes "'"

-- a text of digits in the form of hexadecimals
abbrev pub hexadecimal_form : List ℕ → List ℕ
hexadecimal_form digits = codes "X'" ++ digits ++ codes "'"

-- two digits spell each byte, the high one first
abbrev pub SpellsBytes : List ℕ → List ℕ → Type 0
SpellsBytes [] [] = ⊤
SpellsBytes (high ∷ low ∷ digits) (b ∷ bytes) =
    (digit_value high < 16) × (digit_value low < 16)
    × (b ≡ 16 * digit_value high + digit_value low) × SpellsBytes digits bytes
SpellsBytes _ _ = ⊥

-- the text is a literal of these bytes
abbrev pub IsLiteral : List ℕ → List ℕ → Type 0
IsLiteral text bytes = (text ≡ character_form bytes)
    ⊎ ((digits : List ℕ) × (text ≡ hexadecimal_form digits) × SpellsBytes digits bytes)

-- the text is X'..', and the quote that closes it is the only one after the first
pub record IsClosed (text digits : List ℕ) : Type 0 where
  pub form : text ≡ hexadecimal_form digits
  pub quotes : ¬ Contains digits 39

-- the first byte that is not a digit, or the last digit where it has no partner
pub record IsFirstBadDigit (digits : List ℕ) (at : ℕ) : Type 0 where
  pub within : at < length digits
  pub before : (i : ℕ) → i < at → digit_value (slice_index digits i) < 16
  pub bad : (16 ≤ digit_value (slice_index digits at)) ⊎ ((at + 1 ≡ length digits) × (at % 2 ≡ 0))

-- When each fault comes. The causes exclude one another, and memory runs out only over a literal.
abbrev pub CauseOf : List ℕ → LiteralFault → Type 0
CauseOf text Unclosed = ((bytes : List ℕ) → text ≢ character_form bytes)
    × ((digits : List ℕ) → ¬ IsClosed text digits)
CauseOf text (Digit at) = (digits : List ℕ) × (i : ℕ) × IsClosed text digits
    × IsFirstBadDigit digits i × (at ≡ i + 2)
CauseOf text Memory = (bytes : List ℕ) × IsLiteral text bytes

-- X'20' to X'7E'
abbrev pub is_printable : ℕ → Bool
is_printable b = nat_le 32 b && nat_le b 126

-- a byte as two digits in upper case
abbrev pub digit_pair : ℕ → List ℕ
digit_pair b = digit_glyph true (b / 16) ∷ digit_glyph true (b % 16) ∷ []

-- the one spelling that is written: characters where all can be printed, else hexadecimals
abbrev pub literal_of : List ℕ → List ℕ
literal_of bytes = if list_all is_printable bytes then character_form bytes else hexadecimal_form
    (flat_map digit_pair bytes)
