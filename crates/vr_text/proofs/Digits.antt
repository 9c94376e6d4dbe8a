-- Pairs of hexadecimal digits.
use Rattle.std.proofs.Common.{◌≡◌, ℕ, zero, suc, ◌+◌, ◌*◌, ◌/◌, ◌%◌, ◌<◌, true, inl, inr, List, []}
use Rattle.std.proofs.Common.{◌∷◌, ◌++◌, length, get_or, Contains, take, flat_map, append_assoc}
use Rattle.std.proofs.Common.{subst, refl, sym, ap, ap₂, ◌∙◌, arith}
use Rattle.std.specs.Char.{digit_value}
use Rattle.std.specs.Fmt.{digit_glyph}
use Rattle.std.specs.List.{AllByRecursion}
use Rattle.std.proofs.lemmas.Bool.{cases_order}
use Rattle.std.proofs.lemmas.List.{get_or_default, take_more}
use Rattle.std.proofs.lemmas.Bool.Decides.{nat_tests}
use Rattle.vr_text.specs.Literal.{SpellsBytes, IsFirstBadDigit, digit_pair}

-- a digit in upper case has its value
digit_value-digit_glyph : (d : ℕ) → d < 16 → digit_value (digit_glyph true d) ≡ d
digit_value-digit_glyph d below = grind (arith, nat_tests)

-- the digits that are written spell the bytes
pub SpellsBytes-digit_pair : (bytes : List ℕ) → AllByRecursion (λ b. b < 256) bytes
    → SpellsBytes (flat_map digit_pair bytes) bytes
SpellsBytes-digit_pair [] all = tt
SpellsBytes-digit_pair (b ∷ bytes) all =
    let fits : b < 256 = all.0 in
    let high : digit_value (digit_glyph true (b / 16)) ≡ b / 16 =
    digit_value-digit_glyph (b / 16) (omega arith) in
    let low : digit_value (digit_glyph true (b % 16)) ≡ b % 16 =
    digit_value-digit_glyph (b % 16) (omega arith) in
    (omega arith, omega arith, omega arith, SpellsBytes-digit_pair bytes all.1)

-- digits spell one list of bytes
pub SpellsBytes_same : (digits a b : List ℕ) → SpellsBytes digits a → SpellsBytes digits b → a ≡ b
SpellsBytes_same [] [] [] spells spells_is = refl
SpellsBytes_same [] [] (y ∷ b) spells spells_is = absurd spells_is
SpellsBytes_same [] (x ∷ a) b spells spells_is = absurd spells
SpellsBytes_same (d ∷ []) [] b spells spells_is = absurd spells
SpellsBytes_same (d ∷ []) (x ∷ a) b spells spells_is = absurd spells
SpellsBytes_same (high ∷ low ∷ digits) [] b spells spells_is = absurd spells
SpellsBytes_same (high ∷ low ∷ digits) (x ∷ a) [] spells spells_is = absurd spells_is
SpellsBytes_same (high ∷ low ∷ digits) (x ∷ a) (y ∷ b) spells spells_is =
    ap₂ (λ (v : ℕ) (vs : List ℕ). v ∷ vs) (spells.2 ∙ sym spells_is.2)
    (SpellsBytes_same digits a b spells.3 spells_is.3)

-- digits of two texts, one after the other
pub SpellsBytes-append : (digits bytes more tail : List ℕ) → SpellsBytes digits bytes
    → SpellsBytes more tail → SpellsBytes (digits ++ more) (bytes ++ tail)
SpellsBytes-append [] [] more tail spells spells_is = spells_is
SpellsBytes-append [] (b ∷ bytes) more tail spells spells_is = absurd spells
SpellsBytes-append (d ∷ []) [] more tail spells spells_is = absurd spells
SpellsBytes-append (d ∷ []) (b ∷ bytes) more tail spells spells_is = absurd spells
SpellsBytes-append (high ∷ low ∷ digits) [] more tail spells spells_is = absurd spells
SpellsBytes-append (high ∷ low ∷ digits) (b ∷ bytes) more tail spells spells_is =
    (spells.0, spells.1, spells.2, SpellsBytes-append digits bytes more tail spells.3 spells_is)

-- one pair more
pub SpellsBytes-pair : (digits bytes : List ℕ) (i b : ℕ) → 2 * i + 1 < length digits
    → SpellsBytes (take (2 * i) digits) bytes → digit_value (get_or digits (2 * i) 0) < 16
    → digit_value (get_or digits (2 * i + 1) 0) < 16
    → b ≡ 16 * digit_value (get_or digits (2 * i) 0) + digit_value (get_or digits (2 * i + 1) 0)
    → SpellsBytes (take (2 * (i + 1)) digits) (bytes ++ b ∷ [])
SpellsBytes-pair digits bytes i b below spells high low value =
    let high_digit = get_or digits (2 * i) 0 in
    let low_digit = get_or digits (2 * i + 1) 0 in
    let count : 2 * (i + 1) ≡ 2 * i + 1 + 1 = omega arith in
    let more : take (2 * (i + 1)) digits ≡ take (2 * i) digits ++ (high_digit ∷ low_digit ∷ [])
    = ap (λ n. take n digits) count ∙ take_more digits (2 * i + 1) 0 below
    ∙ ap (λ front. front ++ low_digit ∷ []) (take_more digits (2 * i) 0 (omega arith))
    ∙ append_assoc (take (2 * i) digits) (high_digit ∷ []) (low_digit ∷ []) in
    subst (λ text. SpellsBytes text (bytes ++ b ∷ [])) (sym more)
    (SpellsBytes-append (take (2 * i) digits) bytes (high_digit ∷ low_digit ∷ []) (b ∷ []) spells
    (high, low, value, tt))

-- digits that spell bytes come in pairs, and each is one
pub length-SpellsBytes : (digits bytes : List ℕ) → SpellsBytes digits bytes
    → length digits ≡ 2 * length bytes
length-SpellsBytes [] [] spells = refl
length-SpellsBytes [] (b ∷ bytes) spells = absurd spells
length-SpellsBytes (d ∷ []) [] spells = absurd spells
length-SpellsBytes (d ∷ []) (b ∷ bytes) spells = absurd spells
length-SpellsBytes (high ∷ low ∷ digits) [] spells = absurd spells
length-SpellsBytes (high ∷ low ∷ digits) (b ∷ bytes) spells = let rest =
    length-SpellsBytes digits bytes spells.3 in omega (arith, rest)

pub digit-SpellsBytes : (digits bytes : List ℕ) → SpellsBytes digits bytes → (i : ℕ)
    → i < length digits → digit_value (get_or digits i 0) < 16
digit-SpellsBytes [] [] spells i lt = absurd (omega arith)
digit-SpellsBytes [] (b ∷ bytes) spells i lt = absurd spells
digit-SpellsBytes (d ∷ []) [] spells i lt = absurd spells
digit-SpellsBytes (d ∷ []) (b ∷ bytes) spells i lt = absurd spells
digit-SpellsBytes (high ∷ low ∷ digits) [] spells i lt = absurd spells
digit-SpellsBytes (high ∷ low ∷ digits) (b ∷ bytes) spells zero lt = spells.0
digit-SpellsBytes (high ∷ low ∷ digits) (b ∷ bytes) spells (suc zero) lt = spells.1
digit-SpellsBytes (high ∷ low ∷ digits) (b ∷ bytes) spells (suc (suc i)) lt =
    digit-SpellsBytes digits bytes spells.3 i (omega arith)

-- so none is a quote
pub no_quote : (digits bytes : List ℕ) → SpellsBytes digits bytes → ¬ Contains digits 39
no_quote digits bytes spells quote =
    let read : get_or digits quote.0 0 ≡ 39 =
    sym (get_or_default digits quote.0 39 0 quote.1) ∙ quote.2 in
    let value = digit-SpellsBytes digits bytes spells quote.0 quote.1 in
    let of_quote : digit_value 39 < 16 = rw read at value in
    absurd (omega arith)

-- and none is bad
pub no_bad_digit : (digits bytes : List ℕ) (at : ℕ) → SpellsBytes digits bytes
    → ¬ IsFirstBadDigit digits at
no_bad_digit digits bytes at spells first =
    let even = length-SpellsBytes digits bytes spells in
    let value = digit-SpellsBytes digits bytes spells at first.within in
    elim first.bad [
      | inl bad ↦ omega arith
      | inr odd ↦ omega arith
    ]

-- no bad digit comes before the first one
not_before : (digits : List ℕ) (i j : ℕ) → IsFirstBadDigit digits i → IsFirstBadDigit digits j
    → i < j → ⊥
not_before digits i j first first_is before =
    let value = first_is.before i before in
    let within = first_is.within in
    elim first.bad [
      | inl bad ↦ omega arith
      | inr odd ↦ omega arith
    ]

-- one digit is the first bad one
pub first_bad_same : (digits : List ℕ) (i j : ℕ) → IsFirstBadDigit digits i
    → IsFirstBadDigit digits j → i ≡ j
first_bad_same digits i j first first_is =
    elim (cases_order i j) [
      | inl same ↦ same
      | inr apart ↦ elim apart [
        | inl before ↦ absurd (not_before digits i j first first_is before)
        | inr after ↦ absurd (not_before digits j i first_is first after)
      ]
    ]

-- pairs of digits spell bytes
pub spelled : (digits : List ℕ) → length digits % 2 ≡ 0
    → ((i : ℕ) → i < length digits → digit_value (get_or digits i 0) < 16)
    → (bytes : List ℕ) × SpellsBytes digits bytes
spelled [] even valid = ([], tt)
spelled (d ∷ []) even valid = absurd (omega arith)
spelled (high ∷ low ∷ digits) even valid =
    let rest = spelled digits (omega arith) (λ i h. valid (suc (suc i)) (omega arith)) in (
      (16 * digit_value high + digit_value low) ∷ rest.0,
      (valid 0 (omega arith), valid 1 (omega arith), refl, rest.1),
    )
