-- The last mark of a text is an end, also after each piece.
use Rattle.std.proofs.Common.{◌≡◌, ℕ, ◌+◌, Bool, true, false, Some, List, []}
use Rattle.std.proofs.Common.{◌∷◌, ◌++◌, length, drop, refl, sym, subst, append_assoc, inl, inr}
use Rattle.std.proofs.Common.{ltb}
use Rattle.std.specs.Prelude.{not, ◌&&◌, if◌then◌else◌}
use Rattle.vr_text.specs.Lines.{Line}
use Rattle.vr_scan.specs.declared.mark.Mark.{Mark}
use Rattle.vr_scan.specs.declared.mark.Ending.{Ending}
use Rattle.vr_scan.specs.declared.mark.Ending.TheVariants.{Whole, Hyphen, Plus}
use Rattle.vr_scan.specs.declared.mark.Sign.{Sign}
use Rattle.vr_scan.specs.declared.mark.Sign.TheVariants.{Character, LineEnd}
use Rattle.vr_scan.specs.declared.mark.Sign.TheVariants.{OpenEnd as OpenEndSign}
use Rattle.vr_scan.specs.declared.class.Class.{Class}
use Rattle.vr_scan.specs.declared.class.Class.TheVariants.{Gap, Comment, Stop, LeftParenthesis}
use Rattle.vr_scan.specs.declared.class.Class.TheVariants.{RightParenthesis, Comparison}
use Rattle.vr_scan.specs.declared.class.Class.TheVariants.{QuotedCharacters, QuotedDigits, Word}
use Rattle.vr_scan.specs.declared.class.Class.TheVariants.{OpenEnd}
use Rattle.vr_scan.specs.Class.{begins, is_sign, class_of, class_of_sign, goes_on}
use Rattle.vr_scan.specs.Mark.{characters, mark_at, sign_at_end, ending_of, field, own_text}
use Rattle.vr_scan.specs.Mark.{is_joined, blanks_left_out, marks_of_own, marks_of_line}
use Rattle.vr_scan.specs.Mark.{marks_from, marks_of}
use Rattle.vr_scan.specs.Piece.{Piece, IsByte, Spells, IsPieceOf}
use Rattle.vr_scan.specs.Piece.{after_comment, after_word, after_inner, is_pair}
use Rattle.vr_scan.specs.Scan.{opened}
use Rattle.vr_scan.proofs.Suffixes.{inner_suffix}

abbrev pub is_character : Sign → Bool
is_character (Character b) = true
is_character LineEnd = false
is_character OpenEndSign = false

-- The last mark of a text is an end, or, where there is none, what stood before was closed.
abbrev pub Closes : Bool → List Mark → Type 0
Closes closed [] = closed ≡ true
Closes closed (mark ∷ text) = Closes (not (is_character mark.sign)) text

any_before : (closed : Bool) (text : List Mark) → Closes false text → Closes closed text
any_before closed [] c = let h : ⊥ = cc (c) in absurd h
any_before closed (mark ∷ text) c = c

-- after a character
after_character : (mark : Mark) (b : ℕ) (text : List Mark) → mark.sign ≡ Character b
    → Closes (not (is_character mark.sign)) text → Closes false text
after_character mark b text e c = rw e at c

sign_begins : (b : ℕ) (sign : Sign) → is_sign b sign ≡ true → is_character sign ≡ true
sign_begins b (Character x) e = refl
sign_begins b LineEnd e = let h : ⊥ = cc (e) in absurd h
sign_begins b OpenEndSign e = let h : ⊥ = cc (e) in absurd h

without_begun : (b : ℕ) (closed : Bool) (text : List Mark) → begins b text ≡ true
    → Closes closed text → Closes false (drop 1 text)
without_begun b closed [] e c = let h : ⊥ = cc (e) in absurd h
without_begun b closed (mark ∷ text) e c = rw (sign_begins b mark.sign e) at c

without_any : (closed : Bool) (text : List Mark) → Closes closed text
    → (before : Bool) × Closes before (drop 1 text)
without_any closed [] c = (closed, c)
without_any closed (mark ∷ text) c = (not (is_character mark.sign), c)

rest_closes : (closed : Bool) (taken rest : List Mark) → Closes closed (taken ++ rest)
    → (before : Bool) × Closes before rest
rest_closes closed [] rest c = (closed, c)
rest_closes closed (mark ∷ taken) rest c =
    rest_closes (not (is_character mark.sign)) taken rest c

both : (x y : Bool) → (x && y) ≡ true → y ≡ true
both true y e = e
both false y e = let h : ⊥ = cc (e) in absurd h

comment_step : (closed : Bool) (mark : Mark) (text rest : List Mark) (test : Bool)
    → (test ≡ true → begins 47 text ≡ true) → Closes closed text
    → ((before : Bool) → Closes before text → after_comment text ≡ Some rest
    → Closes false rest)
    → (if test then Some (drop 1 text) else after_comment text) ≡ Some rest → Closes false rest
comment_step closed mark text rest true is c more e =
    let same : drop 1 text ≡ rest = cc (e) in
    subst (λ (z : List Mark). Closes false z) same (without_begun 47 closed text (is refl) c)
comment_step closed mark text rest false is c more e = more closed c e

comment_closes : (closed : Bool) (text rest : List Mark) → Closes closed text
    → after_comment text ≡ Some rest → Closes false rest
comment_closes closed [] rest c e = let h : ⊥ = cc (e) in absurd h
comment_closes closed (mark ∷ text) rest c e =
    comment_step (not (is_character mark.sign)) mark text rest
    (is_sign 42 mark.sign && begins 47 text)
    (both (is_sign 42 mark.sign) (begins 47 text)) c
    (λ before k same. comment_closes before text rest k same) e

byte_closes : (b : ℕ) (closed : Bool) (text rest : List Mark) → Closes closed text
    → IsByte b text rest → Closes false rest
byte_closes b closed text rest c p =
    elim p.spelled [
      | inl x ↦
          let k = subst (λ (z : List Mark). Closes closed z) x.1 c in
          after_character p.mark b rest p.is_byte k
      | inr y ↦
          let k = subst (λ (z : List Mark). Closes closed z) y.3 c in
          after_character y.1 39 rest y.2 k
    ]

spells_closes : (closed : Bool) (text : List Mark) (bytes : List ℕ) (rest : List Mark)
    → Closes closed text → Spells text bytes rest → Closes false rest
spells_closes closed text [] rest c s =
    after_character s.mark 39 rest s.quote
    (subst (λ (z : List Mark). Closes closed z) s.closes c)
spells_closes closed text (b ∷ bytes) rest c s =
    spells_closes false s.0 bytes rest (byte_closes b closed text s.0 c s.1) s.2

goes_on_sign : (sign : Sign) (star quote : Bool) → goes_on (class_of_sign sign star quote) ≡ true
    → is_character sign ≡ true
goes_on_sign (Character b) star quote e = refl
goes_on_sign LineEnd star quote e = let h : ⊥ = cc (e) in absurd h
goes_on_sign OpenEndSign star quote e = let h : ⊥ = cc (e) in absurd h

word_step : (mark : Mark) (text : List Mark) (test : Bool)
    → (test ≡ true → is_character mark.sign ≡ true) → Closes false (mark ∷ text)
    → (Closes false text → Closes false (after_word text))
    → Closes false (if test then after_word text else mark ∷ text)
word_step mark text true is c more = more (rw (is refl) at c)
word_step mark text false is c more = c

word_closes : (text : List Mark) → Closes false text → Closes false (after_word text)
word_closes [] c = c
word_closes (mark ∷ text) c =
    word_step mark text (goes_on (class_of mark text))
    (goes_on_sign mark.sign (begins 42 text) (begins 39 text)) c (λ k. word_closes text k)

pair_closes : (mark : Mark) (text : List Mark) (test : Bool)
    → (test ≡ true → begins 61 text ≡ true) → Closes false text
    → Closes false (if test then drop 1 text else text)
pair_closes mark text true is c = without_begun 61 false text (is refl) c
pair_closes mark text false is c = c

to_rest : (closed : Bool) (one rest : List Mark) → rest ≡ one → Closes closed one
    → Closes closed rest
to_rest closed one rest e c = subst (λ (z : List Mark). Closes closed z) (sym e) c

-- what follows a piece that begins with a character
piece_closes : (class : Class) (mark : Mark) (text : List Mark) (piece : Piece)
    (rest : List Mark) → Closes false text → IsPieceOf class mark text piece rest
    → Closes false rest
piece_closes Gap mark text piece rest c p = to_rest false text rest p.1 c
piece_closes Comment mark text piece rest c p =
    let k = without_any false text c in comment_closes k.0 (drop 1 text) rest k.1 p.1
piece_closes Stop mark text piece rest c p = to_rest false text rest p.1 c
piece_closes LeftParenthesis mark text piece rest c p = to_rest false text rest p.1 c
piece_closes RightParenthesis mark text piece rest c p = to_rest false text rest p.1 c
piece_closes Comparison mark text piece rest c p =
    to_rest false _ rest p.1
    (pair_closes mark text (is_pair mark text) (both _ (begins 61 text)) c)
piece_closes QuotedCharacters mark text piece rest c p =
    let k = without_any false text c in spells_closes k.0 (drop 1 text) p.0 rest k.1 p.2
piece_closes QuotedDigits mark text piece rest c p =
    let k = without_any false text c in
    let suffix = inner_suffix (drop 1 text) in
    let n = rest_closes k.0 suffix.taken (after_inner (drop 1 text))
    (subst (λ (z : List Mark). Closes k.0 z) suffix.split k.1) in
    to_rest false (drop 1 (after_inner (drop 1 text))) rest p.3
    (without_begun 39 n.0 (after_inner (drop 1 text)) p.1 n.1)
piece_closes Word mark text piece rest c p =
    to_rest false (after_word text) rest p.1 (word_closes text c)
piece_closes OpenEnd mark text piece rest c p = absurd p

-- after a piece the text closes, given whether a command is open then
pub next_closes : (sign : Sign) (mark : Mark) (text : List Mark) (piece : Piece)
    (rest : List Mark) (begun : Bool) → mark.sign ≡ sign
    → Closes (not (is_character sign)) text
    → IsPieceOf (class_of_sign sign (begins 42 text) (begins 39 text)) mark text piece rest
    → Closes (not (opened begun piece)) rest
next_closes (Character b) mark text piece rest begun e c p =
    any_before (not (opened begun piece)) rest (piece_closes _ mark text piece rest c p)
next_closes LineEnd mark text piece rest begun e c p =
    rw (p.0) (to_rest true text rest p.1 c)
next_closes OpenEndSign mark text piece rest begun e c p = absurd p

prefix_closes : (closed : Bool) (marks tail : List Mark) → ((before : Bool) → Closes before tail)
    → Closes closed (marks ++ tail)
prefix_closes closed [] tail c = c closed
prefix_closes closed (mark ∷ marks) tail c =
    prefix_closes (not (is_character mark.sign)) marks tail c

end_closes : (ending : Ending) (line column : ℕ) (closed : Bool)
    → Closes closed (mark_at (sign_at_end ending false) line column ++ [])
end_closes Whole line column closed = refl
end_closes Hyphen line column closed = refl
end_closes Plus line column closed = refl

own_closes : (joined : Bool) (ending : Ending) (text : List ℕ) (line : ℕ) (closed : Bool)
    → Closes closed (marks_of_own joined false ending text line ++ [])
own_closes joined ending text line closed =
    rw append_assoc
    (prefix_closes closed
    (characters line (2 + blanks_left_out joined text) (drop (blanks_left_out joined text) text))
    (mark_at (sign_at_end ending false) line (2 + length text) ++ [])
    (end_closes ending line (2 + length text)))

lines_close : (joined : Bool) (line : Line) (lines : List Line) (closed : Bool)
    → Closes closed (marks_from joined (line ∷ lines))
lines_close joined line [] closed =
    own_closes joined (ending_of (field line.text))
    (own_text (ending_of (field line.text)) (field line.text)) line.number closed
lines_close joined line (next ∷ lines) closed =
    prefix_closes closed (marks_of_line joined (ltb 0 (length (next ∷ lines))) line)
    (marks_from (is_joined (ending_of (field line.text))) (next ∷ lines))
    (lines_close (is_joined (ending_of (field line.text))) next lines)

pub marks_close : (lines : List Line) → Closes true (marks_of lines)
marks_close [] = refl
marks_close (line ∷ lines) = lines_close false line lines true
