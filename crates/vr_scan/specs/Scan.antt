-- The tokens of a command text, and its first fault.
use Rattle.std.specs.Prelude.{◌≡◌, Bool, true, false, if◌then◌else◌, List, [], ◌∷◌, ◌++◌}
use Rattle.vr_text.specs.Lines.{Line}
use Rattle.vr_scan.specs.declared.mark.Mark.{Mark}
use Rattle.vr_scan.specs.declared.fault.FormFault.{FormFault}
use Rattle.vr_scan.specs.declared.fault.ScanFault.{ScanFault}
use Rattle.vr_scan.specs.declared.fault.ScanFault.TheVariants.{Form, Memory}
use Rattle.vr_scan.specs.declared.token.TokenKind.TheVariants.{End}
use Rattle.vr_scan.specs.Token.{Token}
use Rattle.vr_scan.specs.Mark.{marks_of}
use Rattle.vr_scan.specs.Piece.{Piece, Nothing, Spelled, Ended, IsPiece, IsFault}

-- a text is these pieces, one after another, and then the rest
abbrev pub Cuts : List Mark → List Piece → List Mark → Type 0
Cuts text [] rest = rest ≡ text
Cuts text (piece ∷ pieces) rest =
    (mid : List Mark) × IsPiece text piece mid × Cuts mid pieces rest

-- whether a command is open after a piece, given whether one was before: a token opens one
abbrev pub opened : Bool → Piece → Bool
opened before Nothing = before
opened before (Spelled token) = true
opened before (Ended line column) = false

-- The tokens of a piece. `;` and the end of a line end the command that is open; where none is, as
-- at the end of a blank line, they are nothing.
abbrev pub added : Bool → Piece → List Token
added before Nothing = []
added before (Spelled token) = token ∷ []
added before (Ended line column) =
    if before then record { kind = End; text = []; line = line; column = column } ∷ [] else []

abbrev pub tokens_from : Bool → List Piece → List Token
tokens_from before [] = []
tokens_from before (piece ∷ pieces) = added before piece ++ tokens_from (opened before piece) pieces

-- the lines have these tokens
pub record IsTokens (lines : List Line) (tokens : List Token) : Type 0 where
  pub pieces : List Piece
  pub cut : Cuts (marks_of lines) pieces []
  pub are : tokens ≡ tokens_from false pieces

-- The lines are pieces up to some place, and what stands there has this fault.
pub record IsFirstFault (lines : List Line) (fault : FormFault) : Type 0 where
  pub pieces : List Piece
  pub rest : List Mark
  pub before : Cuts (marks_of lines) pieces rest
  pub there : IsFault rest fault

-- when each fault comes; memory may run out at any time
abbrev pub CauseOf : List Line → ScanFault → Type 0
CauseOf lines (Form fault) = IsFirstFault lines fault
CauseOf lines Memory = Unit {0}
