-- Lists of three and of seven words are those at their places.
use Rattle.std.proofs.Common.{◌≡◌, ℕ, List, [], ◌∷◌, length, Some, slice_get, arith}

pub three_words : (words : List (List ℕ)) (a b c : List ℕ) → length words ≡ 3
    → slice_get words 0 ≡ Some a → slice_get words 1 ≡ Some b → slice_get words 2 ≡ Some c
    → words ≡ a ∷ b ∷ c ∷ []
three_words [] a b c three first second third = absurd (omega (arith, three))
three_words (x ∷ []) a b c three first second third = absurd (omega (arith, three))
three_words (x ∷ y ∷ []) a b c three first second third = absurd (omega (arith, three))
three_words (x ∷ y ∷ z ∷ []) a b c three first second third = cc
three_words (x ∷ y ∷ z ∷ w ∷ more) a b c three first second third = absurd (omega (arith, three))

-- each word at its place, of seven
pub record AreAt (words : List (List ℕ)) (a b c d e f g : List ℕ) : Type 0 where
  pub at_0 : slice_get words 0 ≡ Some a
  pub at_1 : slice_get words 1 ≡ Some b
  pub at_2 : slice_get words 2 ≡ Some c
  pub at_3 : slice_get words 3 ≡ Some d
  pub at_4 : slice_get words 4 ≡ Some e
  pub at_5 : slice_get words 5 ≡ Some f
  pub at_6 : slice_get words 6 ≡ Some g

seven_same : (s t u v w x y a b c d e f g : List ℕ)
    → AreAt (s ∷ t ∷ u ∷ v ∷ w ∷ x ∷ y ∷ []) a b c d e f g
    → s ∷ t ∷ u ∷ v ∷ w ∷ x ∷ y ∷ [] ≡ a ∷ b ∷ c ∷ d ∷ e ∷ f ∷ g ∷ []
seven_same s t u v w x y a b c d e f g h =
    let at_0 : Some s ≡ Some a = h.at_0 in
    let at_1 : Some t ≡ Some b = h.at_1 in
    let at_2 : Some u ≡ Some c = h.at_2 in
    let at_3 : Some v ≡ Some d = h.at_3 in
    let at_4 : Some w ≡ Some e = h.at_4 in
    let at_5 : Some x ≡ Some f = h.at_5 in
    let at_6 : Some y ≡ Some g = h.at_6 in cc

pub seven_words : (words : List (List ℕ)) (a b c d e f g : List ℕ) → length words ≡ 7
    → AreAt words a b c d e f g → words ≡ a ∷ b ∷ c ∷ d ∷ e ∷ f ∷ g ∷ []
seven_words [] a b c d e f g seven h = absurd (omega (arith, seven))
seven_words (s ∷ []) a b c d e f g seven h = absurd (omega (arith, seven))
seven_words (s ∷ t ∷ []) a b c d e f g seven h = absurd (omega (arith, seven))
seven_words (s ∷ t ∷ u ∷ []) a b c d e f g seven h = absurd (omega (arith, seven))
seven_words (s ∷ t ∷ u ∷ v ∷ []) a b c d e f g seven h = absurd (omega (arith, seven))
seven_words (s ∷ t ∷ u ∷ v ∷ w ∷ []) a b c d e f g seven h = absurd (omega (arith, seven))
seven_words (s ∷ t ∷ u ∷ v ∷ w ∷ x ∷ []) a b c d e f g seven h = absurd (omega (arith, seven))
seven_words (s ∷ t ∷ u ∷ v ∷ w ∷ x ∷ y ∷ []) a b c d e f g seven h =
    seven_same s t u v w x y a b c d e f g h
seven_words (s ∷ t ∷ u ∷ v ∷ w ∷ x ∷ y ∷ z ∷ more) a b c d e f g seven h =
    absurd (omega (arith, seven))
