-- What follows a piece is a part of the text, up to its end.
use Rattle.std.proofs.Common.{◌≡◌, ◌⊎◌, ℕ, Bool, true, false, Option, Some, List, [], ◌∷◌, ◌++◌}
use Rattle.std.proofs.Common.{drop, refl, sym, ◌∙◌, ap, subst, inl, inr, append_assoc}
use Rattle.std.specs.Prelude.{if◌then◌else◌, ◌&&◌}
use Rattle.vr_scan.specs.declared.mark.Mark.{Mark}
use Rattle.vr_scan.specs.declared.class.Class.{Class}
use Rattle.vr_scan.specs.declared.class.Class.TheVariants.{Gap, Comment, Stop, LeftParenthesis}
use Rattle.vr_scan.specs.declared.class.Class.TheVariants.{RightParenthesis, Comparison}
use Rattle.vr_scan.specs.declared.class.Class.TheVariants.{QuotedCharacters, QuotedDigits, Word}
use Rattle.vr_scan.specs.declared.class.Class.TheVariants.{OpenEnd}
use Rattle.vr_scan.specs.Class.{begins, is_sign, class_of, goes_on}
use Rattle.vr_scan.specs.Piece.{Piece, IsByte, Spells, IsPieceOf, after_comment, after_word}
use Rattle.vr_scan.specs.Piece.{after_inner, after_comparison, is_inner, is_pair}

pub record IsSuffix (text rest : List Mark) : Type 0 where
  pub taken : List Mark
  pub split : text ≡ taken ++ rest

pub whole : (text : List Mark) → IsSuffix text text
whole text = record { taken = []; split = refl }

pub later : (mark : Mark) (text rest : List Mark) → IsSuffix text rest → IsSuffix (mark ∷ text) rest
later mark text rest s =
    record { taken = mark ∷ s.taken; split = ap (λ z. mark ∷ z) s.split }

then_suffix : (text mid rest : List Mark) → IsSuffix text mid → IsSuffix mid rest
    → IsSuffix text rest
then_suffix text mid rest s t = record {
  taken = s.taken ++ t.taken;
  split = rw append_assoc (s.split ∙ ap (λ z. s.taken ++ z) t.split);
}

without_first : (text : List Mark) → IsSuffix text (drop 1 text)
without_first [] = whole []
without_first (mark ∷ text) = later mark text text (whole text)

either : (b : Bool) (text one other : List Mark) → IsSuffix text one → IsSuffix text other
    → IsSuffix text (if b then one else other)
either true text one other s t = s
either false text one other s t = t

pub one_of : (b : Bool) (x y : Option (List Mark)) (rest : List Mark)
    → (if b then x else y) ≡ Some rest → (x ≡ Some rest) ⊎ (y ≡ Some rest)
one_of true x y rest e = inl e
one_of false x y rest e = inr e

same_rest : (text one rest : List Mark) → Some one ≡ Some rest → IsSuffix text one
    → IsSuffix text rest
same_rest text one rest e s =
    let same : one ≡ rest = cc (e) in subst (λ (z : List Mark). IsSuffix text z) same s

comment_suffix : (text rest : List Mark) → after_comment text ≡ Some rest → IsSuffix text rest
comment_suffix [] rest e = let f : ⊥ = cc (e) in absurd f
comment_suffix (mark ∷ text) rest e =
    elim (one_of (is_sign 42 mark.sign && begins 47 text) (Some (drop 1 text)) (after_comment text)
    rest e) [
      | inl x ↦ later mark text rest (same_rest text (drop 1 text) rest x (without_first text))
      | inr y ↦ later mark text rest (comment_suffix text rest y)
    ]

word_suffix : (text : List Mark) → IsSuffix text (after_word text)
word_suffix [] = whole []
word_suffix (mark ∷ text) =
    either (goes_on (class_of mark text)) (mark ∷ text) (after_word text) (mark ∷ text)
    (later mark text (after_word text) (word_suffix text)) (whole (mark ∷ text))

pub inner_suffix : (text : List Mark) → IsSuffix text (after_inner text)
inner_suffix [] = whole []
inner_suffix (mark ∷ text) =
    either (is_inner mark.sign) (mark ∷ text) (after_inner text) (mark ∷ text)
    (later mark text (after_inner text) (inner_suffix text)) (whole (mark ∷ text))

byte_suffix : (b : ℕ) (text rest : List Mark) → IsByte b text rest → IsSuffix text rest
byte_suffix b text rest p =
    elim p.spelled [
      | inl x ↦ record { taken = p.mark ∷ []; split = x.1 }
      | inr y ↦ record { taken = p.mark ∷ y.1 ∷ []; split = y.3 }
    ]

spells_suffix : (text : List Mark) (bytes : List ℕ) (rest : List Mark) → Spells text bytes rest
    → IsSuffix text rest
spells_suffix text [] rest p = record { taken = p.mark ∷ []; split = p.closes }
spells_suffix text (b ∷ bytes) rest p =
    then_suffix text p.0 rest (byte_suffix b text p.0 p.1) (spells_suffix p.0 bytes rest p.2)

to_suffix : (text one rest : List Mark) → rest ≡ one → IsSuffix text one → IsSuffix text rest
to_suffix text one rest e s = subst (λ (z : List Mark). IsSuffix text z) (sym e) s

pub piece_suffix : (class : Class) (mark : Mark) (text : List Mark) (piece : Piece)
    (rest : List Mark) → IsPieceOf class mark text piece rest → IsSuffix text rest
piece_suffix Gap mark text piece rest p = to_suffix text text rest p.1 (whole text)
piece_suffix Comment mark text piece rest p =
    then_suffix text (drop 1 text) rest (without_first text)
    (comment_suffix (drop 1 text) rest p.1)
piece_suffix Stop mark text piece rest p = to_suffix text text rest p.1 (whole text)
piece_suffix LeftParenthesis mark text piece rest p = to_suffix text text rest p.1 (whole text)
piece_suffix RightParenthesis mark text piece rest p = to_suffix text text rest p.1 (whole text)
piece_suffix Comparison mark text piece rest p =
    to_suffix text (after_comparison mark text) rest p.1
    (either (is_pair mark text) text (drop 1 text) text (without_first text) (whole text))
piece_suffix QuotedCharacters mark text piece rest p =
    then_suffix text (drop 1 text) rest (without_first text)
    (spells_suffix (drop 1 text) p.0 rest p.2)
piece_suffix QuotedDigits mark text piece rest p =
    to_suffix text (drop 1 (after_inner (drop 1 text))) rest p.3
    (then_suffix text (drop 1 text) (drop 1 (after_inner (drop 1 text))) (without_first text)
    (then_suffix (drop 1 text) (after_inner (drop 1 text)) (drop 1 (after_inner (drop 1 text)))
    (inner_suffix (drop 1 text)) (without_first (after_inner (drop 1 text)))))
piece_suffix Word mark text piece rest p =
    to_suffix text (after_word text) rest p.1 (word_suffix text)
piece_suffix OpenEnd mark text piece rest p = absurd p
