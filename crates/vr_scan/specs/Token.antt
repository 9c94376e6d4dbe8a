-- The tokens of a command text.
use Rattle.std.specs.Prelude.{ℕ, List, [], slice_index_or}
use Rattle.vr_scan.specs.declared.token.TokenKind.{TokenKind}
use Rattle.vr_scan.specs.declared.token.TokenKind.TheVariants.{End}

-- A token: its text, and the place of its first character. A word is in capitals; a literal has the
-- bytes that it stands for; parentheses and ends have no text.
pub record Token : Type 0 where
  pub kind : TokenKind
  pub text : List ℕ
  pub line : ℕ
  pub column : ℕ

-- the token at a place of a list
abbrev pub token_at : List Token → ℕ → Token
token_at tokens i =
    slice_index_or tokens i (record { kind = End; text = []; line = 0; column = 0 })
