-- What lies between the quotes of a literal, and when it is at fault. The forms are those of
-- Literal.
use Rattle.std.specs.Prelude.{◌≡◌, ◌≢◌, ℕ, ◌+◌, List, Contains}
use Rattle.vr_text.specs.Literal.{doubled, SpellsBytes, IsFirstBadDigit}
use Rattle.vr_text.specs.declared.literal.LiteralFault.{LiteralFault}
use Rattle.vr_text.specs.declared.literal.LiteralFault.TheVariants.{Unclosed, Digit, Memory}

-- when each fault comes in a C'..', and in an X'..'
abbrev pub CauseInCharacters : List ℕ → LiteralFault → Type 0
CauseInCharacters quoted Unclosed = (bytes : List ℕ) → quoted ≢ doubled bytes
CauseInCharacters quoted (Digit at) = ⊥
CauseInCharacters quoted Memory = (bytes : List ℕ) × (quoted ≡ doubled bytes)

abbrev pub CauseInDigits : List ℕ → LiteralFault → Type 0
CauseInDigits digits Unclosed = Contains digits 39
CauseInDigits digits (Digit at) = (i : ℕ) × (¬ Contains digits 39) × IsFirstBadDigit digits i
    × (at ≡ i + 2)
CauseInDigits digits Memory = (bytes : List ℕ) × SpellsBytes digits bytes
