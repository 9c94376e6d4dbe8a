-- Places in ascending order, and where ends stand among tokens.
use Rattle.std.specs.Prelude.{◌≡◌, ◌⊎◌, ℕ, ◌+◌, ◌<◌, ◌≤◌, Bool, true, false, not, List, [], ◌∷◌}
use Rattle.vr_text.specs.Lines.{Line}
use Rattle.vr_scan.specs.declared.token.TokenKind.{TokenKind}
use Rattle.vr_scan.specs.declared.token.TokenKind.TheVariants.{Word, Characters, Hex, Compare}
use Rattle.vr_scan.specs.declared.token.TokenKind.TheVariants.{Open, Close, End}
use Rattle.vr_scan.specs.Token.{Token}

-- the second place is the first or stands after it
abbrev pub IsAtOrPast : ℕ → ℕ → ℕ → ℕ → Type 0
IsAtOrPast line column other_line other_column =
    (line < other_line) ⊎ ((line ≡ other_line) × (column ≤ other_column))

-- The numbers of lines ascend strictly, from this one on.
abbrev pub NumbersAscend : ℕ → List Line → Type 0
NumbersAscend least [] = Unit {0}
NumbersAscend least (line ∷ lines) =
    (least ≤ line.number) × NumbersAscend (line.number + 1) lines

-- The places of tokens ascend strictly, from this one on.
abbrev pub PlacesAscend : ℕ → ℕ → List Token → Type 0
PlacesAscend line column [] = Unit {0}
PlacesAscend line column (token ∷ tokens) =
    IsAtOrPast line column token.line token.column
    × PlacesAscend token.line (token.column + 1) tokens

abbrev pub is_end : TokenKind → Bool
is_end Word = false
is_end Characters = false
is_end Hex = false
is_end Compare = false
is_end Open = false
is_end Close = false
is_end End = true

-- Commands are ended: each end follows another token, given whether one stands before, and the
-- last token is an end.
abbrev pub AreEnded : Bool → List Token → Type 0
AreEnded begun [] = begun ≡ false
AreEnded begun (token ∷ tokens) =
    (is_end token.kind ≡ true → begun ≡ true) × AreEnded (not (is_end token.kind)) tokens
