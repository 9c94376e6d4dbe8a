-- The places of marks and tokens ascend.
use Rattle.std.proofs.Common.{◌≡◌, ◌⊎◌, ℕ, ◌+◌, ◌≤◌, Bool, true, false, Option, Some, None, List}
use Rattle.std.proofs.Common.{[], ◌∷◌, ◌++◌, length, drop, refl, ◌∙◌, subst, inl, inr, append_assoc}
use Rattle.std.proofs.Common.{arith, length-drop, ltb}
use Rattle.std.proofs.lemmas.List.Sums.{prefix_len-le-length}
use Rattle.std.proofs.lemmas.Bool.{cases_lt}
use Rattle.vr_text.specs.Lines.{Line}
use Rattle.vr_scan.specs.declared.mark.Mark.{Mark}
use Rattle.vr_scan.specs.declared.mark.Sign.{Sign}
use Rattle.vr_scan.specs.declared.mark.Ending.{Ending}
use Rattle.vr_scan.specs.declared.class.Class.{Class}
use Rattle.vr_scan.specs.declared.class.Class.TheVariants.{Gap, Comment, Stop, LeftParenthesis}
use Rattle.vr_scan.specs.declared.class.Class.TheVariants.{RightParenthesis, Comparison}
use Rattle.vr_scan.specs.declared.class.Class.TheVariants.{QuotedCharacters, QuotedDigits, Word}
use Rattle.vr_scan.specs.declared.class.Class.TheVariants.{OpenEnd}
use Rattle.vr_scan.specs.Token.{Token}
use Rattle.vr_scan.specs.Class.{class_of}
use Rattle.vr_scan.specs.Mark.{is_blank, field, ending_of, is_joined, own_text, characters}
use Rattle.vr_scan.specs.Mark.{sign_at_end, mark_at, blanks_left_out, marks_of_own, marks_from}
use Rattle.vr_scan.specs.Mark.{marks_of}
use Rattle.vr_scan.specs.Piece.{Piece, Nothing, Spelled, Ended, IsPieceOf}
use Rattle.vr_scan.specs.Scan.{Cuts, tokens_from, added, opened, IsTokens}
use Rattle.vr_scan.specs.Order.{IsAtOrPast, NumbersAscend, PlacesAscend}
use Rattle.vr_scan.proofs.Suffixes.{piece_suffix}

abbrev pub MarksAscend : ℕ → ℕ → List Mark → Type 0
MarksAscend line column [] = Unit {0}
MarksAscend line column (mark ∷ marks) =
    IsAtOrPast line column mark.line mark.column
    × MarksAscend mark.line (mark.column + 1) marks

past_then : (a b c d e f : ℕ) → IsAtOrPast a b c d → IsAtOrPast c d e f → IsAtOrPast a b e f
past_then a b c d e f p q =
    elim p [
      | inl x ↦ elim q [
        | inl y ↦ inl (omega arith)
        | inr y ↦ inl (let h = y.0 in omega arith)
      ]
      | inr x ↦ elim q [
        | inl y ↦ inl (let h = x.0 in omega arith)
        | inr y ↦ inr (x.0 ∙ y.0, (let h = x.1 in let k = y.1 in omega arith))
      ]
    ]

earlier : (a b c d : ℕ) (marks : List Mark) → IsAtOrPast a b c d → MarksAscend c d marks
    → MarksAscend a b marks
earlier a b c d [] p m = tt
earlier a b c d (mark ∷ marks) p m = (past_then a b c d mark.line mark.column p m.0, m.1)

next_column : (line column : ℕ) → IsAtOrPast line column line (column + 1)
next_column line column = inr (refl, omega arith)

rest_ascends : (line column : ℕ) (taken rest : List Mark) → MarksAscend line column (taken ++ rest)
    → MarksAscend line column rest
rest_ascends line column [] rest m = m
rest_ascends line column (mark ∷ taken) rest m =
    earlier line column mark.line (mark.column + 1) rest
    (past_then line column mark.line mark.column mark.line (mark.column + 1) m.0
    (next_column mark.line mark.column))
    (rest_ascends mark.line (mark.column + 1) taken rest m.1)

-- what a piece adds is nothing, or a token at its first mark
abbrev pub AddsAt : Mark → List Token → Type 0
AddsAt mark tokens = (tokens ≡ [])
    ⊎ ((token : Token) × (tokens ≡ token ∷ []) × (token.line ≡ mark.line)
    × (token.column ≡ mark.column))

nothing_added : (mark : Mark) (begun : Bool) (piece : Piece) → piece ≡ Nothing
    → AddsAt mark (added begun piece)
nothing_added mark begun piece e = rw e (inl refl)

token_added : (mark : Mark) (begun : Bool) (piece : Piece) (token : Token)
    → piece ≡ Spelled token → token.line ≡ mark.line → token.column ≡ mark.column
    → AddsAt mark (added begun piece)
token_added mark begun piece token e line column = rw e (inr (token, refl, line, column))

end_added : (mark : Mark) (begun : Bool) (piece : Piece) → piece ≡ Ended mark.line mark.column
    → AddsAt mark (added begun piece)
end_added mark true piece e = rw e (inr (_, refl, refl, refl))
end_added mark false piece e = rw e (inl refl)

adds_at : (class : Class) (mark : Mark) (text : List Mark) (piece : Piece) (rest : List Mark)
    (begun : Bool) → IsPieceOf class mark text piece rest → AddsAt mark (added begun piece)
adds_at Gap mark text piece rest begun p = nothing_added mark begun piece p.0
adds_at Comment mark text piece rest begun p = nothing_added mark begun piece p.0
adds_at Stop mark text piece rest begun p = end_added mark begun piece p.0
adds_at LeftParenthesis mark text piece rest begun p =
    token_added mark begun piece _ p.0 refl refl
adds_at RightParenthesis mark text piece rest begun p =
    token_added mark begun piece _ p.0 refl refl
adds_at Comparison mark text piece rest begun p = token_added mark begun piece _ p.0 refl refl
adds_at QuotedCharacters mark text piece rest begun p =
    token_added mark begun piece _ p.1 refl refl
adds_at QuotedDigits mark text piece rest begun p = token_added mark begun piece _ p.0 refl refl
adds_at Word mark text piece rest begun p = token_added mark begun piece _ p.0 refl refl
adds_at OpenEnd mark text piece rest begun p = absurd p

tokens_ascend : (line column : ℕ) (text rest : List Mark) (begun : Bool) (pieces : List Piece)
    → Cuts text pieces rest → MarksAscend line column text
    → PlacesAscend line column (tokens_from begun pieces)
tokens_ascend line column text rest begun [] cuts m = tt
tokens_ascend line column [] rest begun (piece ∷ pieces) cuts m = absurd cuts.1
tokens_ascend line column (mark ∷ text) rest begun (piece ∷ pieces) cuts m =
    let suffix = piece_suffix (class_of mark text) mark text piece cuts.0 cuts.1 in
    let after = rest_ascends mark.line (mark.column + 1) suffix.taken cuts.0
    (subst (λ (z : List Mark). MarksAscend mark.line (mark.column + 1) z) suffix.split m.1) in
    let before = earlier line column mark.line (mark.column + 1) cuts.0
    (past_then line column mark.line mark.column mark.line (mark.column + 1) m.0
    (next_column mark.line mark.column)) after in
    elim (adds_at (class_of mark text) mark text piece cuts.0 begun cuts.1) [
      | inl none ↦ rw none
          (tokens_ascend line column cuts.0 rest (opened begun piece) pieces cuts.2 before)
      | inr one ↦ rw (one.1) (
        rw (one.2, one.3) m.0,
        rw (one.2, one.3) (tokens_ascend mark.line (mark.column + 1) cuts.0 rest
            (opened begun piece) pieces cuts.2 after),
      )
    ]

characters_ascend : (line column : ℕ) (text : List ℕ) (tail : List Mark)
    → MarksAscend line (column + length text) tail
    → MarksAscend line column (characters line column text ++ tail)
characters_ascend line column [] tail m =
    earlier line column line (column + length {A = ℕ} []) tail (inr (refl, omega arith)) m
characters_ascend line column (b ∷ text) tail m =
    let same : column + length (b ∷ text) ≡ column + 1 + length text = omega arith in (
      inr (refl, omega arith),
      characters_ascend line (column + 1) text tail
          (subst (λ (c : ℕ). MarksAscend line c tail) same m),
    )

end_ascends : (sign : Option Sign) (line column : ℕ) (tail : List Mark)
    → MarksAscend line (column + 1) tail
    → MarksAscend line column (mark_at sign line column ++ tail)
end_ascends None line column tail m =
    earlier line column line (column + 1) tail (next_column line column) m
end_ascends (Some sign) line column tail m = (inr (refl, omega arith), m)

few_blanks : (joined : Bool) (text : List ℕ) → blanks_left_out joined text ≤ length text
few_blanks true text = prefix_len-le-length is_blank text
few_blanks false text = omega arith

at_least : (least line column : ℕ) → least ≤ line → IsAtOrPast least 0 line column
at_least least line column within =
    elim (cases_lt least line) [
      | inl below ↦ inl below
      | inr above ↦ inr ((let h = above in omega arith), omega arith)
    ]

own_ascends : (joined more : Bool) (ending : Ending) (text : List ℕ) (line least : ℕ)
    (tail : List Mark) → least ≤ line → MarksAscend (line + 1) 0 tail
    → MarksAscend least 0 (marks_of_own joined more ending text line ++ tail)
own_ascends joined more ending text line least tail within m =
    let blanks = blanks_left_out joined text in
    let few = few_blanks joined text in
    let at_end = end_ascends (sign_at_end ending more) line (2 + length text) tail
    (earlier line (2 + length text + 1) (line + 1) 0 tail (inl (omega arith)) m) in
    let from_end = earlier line (2 + blanks + length (drop blanks text)) line (2 + length text) _
    (inr (refl, omega (arith, length-drop blanks text, few))) at_end in
    let from_start = characters_ascend line (2 + blanks) (drop blanks text) _ from_end in
    rw append_assoc
    (earlier least 0 line (2 + blanks) _ (at_least least line (2 + blanks) within) from_start)

lines_ascend : (joined : Bool) (least : ℕ) (lines : List Line) → NumbersAscend least lines
    → MarksAscend least 0 (marks_from joined lines)
lines_ascend joined least [] n = tt
lines_ascend joined least (line ∷ lines) n =
    own_ascends joined (ltb 0 (length lines)) (ending_of (field line.text))
    (own_text (ending_of (field line.text)) (field line.text)) line.number least _ n.0
    (lines_ascend (is_joined (ending_of (field line.text))) (line.number + 1) lines n.1)

pub places_ascend : (lines : List Line) (tokens : List Token) → NumbersAscend 0 lines
    → IsTokens lines tokens → PlacesAscend 0 0 tokens
places_ascend lines tokens n is =
    rw (is.are) (tokens_ascend 0 0 (marks_of lines) [] false is.pieces is.cut
    (lines_ascend false 0 lines n))
