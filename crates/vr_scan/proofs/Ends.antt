-- Each end follows another token, and the last token is one.
use Rattle.std.proofs.Common.{◌≡◌, ℕ, Bool, true, false, List, [], ◌∷◌, ◌++◌, refl, sym, subst}
use Rattle.vr_text.specs.Lines.{Line}
use Rattle.vr_scan.specs.declared.mark.Mark.{Mark}
use Rattle.vr_scan.specs.declared.class.Class.{Class}
use Rattle.vr_scan.specs.declared.class.Class.TheVariants.{Gap, Comment, Stop, LeftParenthesis}
use Rattle.vr_scan.specs.declared.class.Class.TheVariants.{RightParenthesis, Comparison}
use Rattle.vr_scan.specs.declared.class.Class.TheVariants.{QuotedCharacters, QuotedDigits, Word}
use Rattle.vr_scan.specs.declared.class.Class.TheVariants.{OpenEnd}
use Rattle.vr_scan.specs.Token.{Token}
use Rattle.vr_scan.specs.Class.{class_of}
use Rattle.vr_scan.specs.Mark.{marks_of}
use Rattle.vr_scan.specs.Piece.{Piece, Nothing, Spelled, Ended, IsPieceOf}
use Rattle.vr_scan.specs.Scan.{Cuts, tokens_from, added, opened, IsTokens}
use Rattle.std.specs.Prelude.{not}
use Rattle.vr_scan.proofs.Closing.{Closes, next_closes, marks_close}
use Rattle.vr_scan.specs.Order.{is_end, AreEnded}

-- the tokens of a piece before further ones
abbrev pub Follows : Bool → Piece → Type 0
Follows begun piece = (tail : List Token) → AreEnded (opened begun piece) tail
    → AreEnded begun (added begun piece ++ tail)

nothing_follows : (begun : Bool) → Follows begun Nothing
nothing_follows begun = λ tail ends. ends

spelled_follows : (begun : Bool) (token : Token) → is_end token.kind ≡ false
    → Follows begun (Spelled token)
spelled_follows begun token other = λ tail ends.
    ((λ yes_end. let f : ⊥ = cc (yes_end, other) in absurd f), rw other ends)

end_follows : (begun : Bool) (line column : ℕ) → Follows begun (Ended line column)
end_follows true line column = λ tail ends. ((λ yes_end. refl), ends)
end_follows false line column = λ tail ends. ends

to_piece : (begun : Bool) (piece other : Piece) → piece ≡ other → Follows begun other
    → Follows begun piece
to_piece begun piece other e f = subst (λ (z : Piece). Follows begun z) (sym e) f

token_follows : (begun : Bool) (piece : Piece) (token : Token) → piece ≡ Spelled token
    → is_end token.kind ≡ false → Follows begun piece
token_follows begun piece token e other =
    to_piece begun piece (Spelled token) e (spelled_follows begun token other)

piece_follows : (class : Class) (mark : Mark) (text : List Mark) (piece : Piece)
    (rest : List Mark) (begun : Bool) → IsPieceOf class mark text piece rest
    → Follows begun piece
piece_follows Gap mark text piece rest begun p =
    to_piece begun piece _ p.0 (nothing_follows begun)
piece_follows Comment mark text piece rest begun p =
    to_piece begun piece _ p.0 (nothing_follows begun)
piece_follows Stop mark text piece rest begun p =
    to_piece begun piece _ p.0 (end_follows begun mark.line mark.column)
piece_follows LeftParenthesis mark text piece rest begun p =
    token_follows begun piece _ p.0 refl
piece_follows RightParenthesis mark text piece rest begun p =
    token_follows begun piece _ p.0 refl
piece_follows Comparison mark text piece rest begun p =
    token_follows begun piece _ p.0 refl
piece_follows QuotedCharacters mark text piece rest begun p =
    token_follows begun piece _ p.1 refl
piece_follows QuotedDigits mark text piece rest begun p =
    token_follows begun piece _ p.0 refl
piece_follows Word mark text piece rest begun p =
    token_follows begun piece _ p.0 refl
piece_follows OpenEnd mark text piece rest begun p = absurd p

not_begun : (begun : Bool) → not begun ≡ true → begun ≡ false
not_begun true e = let h : ⊥ = cc (e) in absurd h
not_begun false e = refl

tokens_follow : (text : List Mark) (begun : Bool) (pieces : List Piece) → Cuts text pieces []
    → Closes (not begun) text → AreEnded begun (tokens_from begun pieces)
tokens_follow text begun [] cuts closes =
    not_begun begun (subst (λ (z : List Mark). Closes (not begun) z) (sym cuts) closes)
tokens_follow [] begun (piece ∷ pieces) cuts closes = absurd cuts.1
tokens_follow (mark ∷ text) begun (piece ∷ pieces) cuts closes =
    piece_follows (class_of mark text) mark text piece cuts.0 begun cuts.1
    (tokens_from (opened begun piece) pieces)
    (tokens_follow cuts.0 (opened begun piece) pieces cuts.2
    (next_closes mark.sign mark text piece cuts.0 begun refl closes cuts.1))

pub commands_are_ended : (lines : List Line) (tokens : List Token) → IsTokens lines tokens
    → AreEnded false tokens
commands_are_ended lines tokens is =
    rw is.are
    (tokens_follow (marks_of lines) false is.pieces is.cut (marks_close lines))
