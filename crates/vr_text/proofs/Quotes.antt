-- Quotes that are doubled.
use Rattle.std.proofs.Common.{◌≡◌, ◌≢◌, ◌↔◌, ◌<◌, ◌≤◌, IsTrue, suc, length, drop, get_or, ap₂}
use Rattle.std.proofs.Common.{drop-cons, drop_of_length-le, ℕ, Bool, true, false, not, ◌&&◌, ◌||◌, ◌==◌}
use Rattle.std.proofs.Common.{◌⊎◌, inl, inr, if◌then◌else◌, List, [], ◌∷◌, refl, sym, ap, ◌∙◌}
use Rattle.std.proofs.Common.{arith}
use Rattle.std.specs.List.{list_any}
use Rattle.std.proofs.lemmas.Bool.{and_parts, cases_Bool, true≢false}
use Rattle.std.proofs.lemmas.Bool.Decides.{Decides-eqb, nat_tests}
use Rattle.vr_text.specs.Literal.{doubled}

-- each quote of what is left has its second, where the first of one may come before it
abbrev pub is_doubled_from : Bool → List ℕ → Bool
is_doubled_from halved [] = not halved
is_doubled_from false (b ∷ bs) = is_doubled_from (b == 39) bs
is_doubled_from true (b ∷ bs) = (b == 39) && is_doubled_from false bs

-- what is left, with one quote for two
abbrev pub undoubled_from : Bool → List ℕ → List ℕ
undoubled_from halved [] = []
undoubled_from false (b ∷ bs) =
    if b == 39 then undoubled_from true bs else b ∷ undoubled_from false bs
undoubled_from true (b ∷ bs) = b ∷ undoubled_from false bs

-- a quote, or another byte
is_quote : (b : ℕ) → (b ≡ 39) ⊎ ((b == 39) ≡ false)
is_quote b =
    elim (cases_Bool (b == 39)) [
      | inl same ↦ inl ((Decides-eqb b 39).0 same)
      | inr other ↦ inr other
    ]

-- what is doubled passes
pub is_doubled_from-doubled : (bytes : List ℕ) → is_doubled_from false (doubled bytes) ≡ true
is_doubled_from-doubled [] = refl
is_doubled_from-doubled (b ∷ bytes) =
    let rest = is_doubled_from-doubled bytes in
    elim (is_quote b) [
      | inl quote ↦ rw quote rest
      | inr other ↦ rw other (rw other rest)
    ]

-- another byte stays
doubled-other : (b : ℕ) (bytes : List ℕ) → (b == 39) ≡ false
    → doubled (b ∷ bytes) ≡ b ∷ doubled bytes
doubled-other b bytes other = rw other refl

-- bytes without a quote stay
pub doubled-none : (bytes : List ℕ) → list_any (λ b. b == 39) bytes ≡ false → doubled bytes ≡ bytes
doubled-none [] none = refl
doubled-none (b ∷ bytes) none =
    elim (is_quote b) [
      | inl quote ↦ absurd (true≢false (sym (ap (λ (test : Bool).
          test || list_any (λ c. c == 39) bytes) ((Decides-eqb b 39).1 quote)) ∙ none))
      | inr other ↦ doubled-other b bytes other
          ∙ ap (λ (rest : List ℕ). b ∷ rest) (doubled-none bytes
          (sym (ap (λ (test : Bool). test || list_any (λ c. c == 39) bytes) other) ∙ none))
    ]

-- what passes is doubled
pub doubled_from : (halved : Bool) (quoted : List ℕ) → is_doubled_from halved quoted ≡ true
    → (bytes : List ℕ) × ((if halved then 39 ∷ quoted else quoted) ≡ doubled bytes)
doubled_from false [] same = ([], refl)
doubled_from true [] same = cc
doubled_from false (b ∷ quoted) same =
    elim (is_quote b) [
      | inl quote ↦
          let rest = doubled_from true quoted (rw quote at same) in
          (rest.0, ap (λ (v : ℕ). v ∷ quoted) quote ∙ rest.1)
      | inr other ↦
          let rest = doubled_from false quoted (rw other at same) in
          (b ∷ rest.0, ap (λ (bs : List ℕ). b ∷ bs) rest.1 ∙ sym (doubled-other b rest.0 other))
    ]
doubled_from true (b ∷ quoted) same =
    let parts = and_parts (b == 39) (is_doubled_from false quoted) same in
    let rest = doubled_from false quoted parts.1 in
    let quote : b ≡ 39 = (Decides-eqb b 39).0 parts.0 in
    (39 ∷ rest.0, ap (λ (v : ℕ). 39 ∷ v ∷ quoted) quote ∙ ap (λ (bs : List ℕ). 39 ∷ 39 ∷ bs) rest.1)

-- what was doubled is undone
pub undoubled_from-doubled : (bytes : List ℕ) → undoubled_from false (doubled bytes) ≡ bytes
undoubled_from-doubled [] = refl
undoubled_from-doubled (b ∷ bytes) =
    let rest = undoubled_from-doubled bytes in
    elim (is_quote b) [
      | inl quote ↦ rw quote (ap (λ (bs : List ℕ). 39 ∷ bs) rest)
      | inr other ↦ rw other (rw other (ap (λ (bs : List ℕ). b ∷ bs) rest))
    ]

-- one list of bytes is doubled so
pub doubled_same : (a b : List ℕ) → doubled a ≡ doubled b → a ≡ b
doubled_same a b same = sym (undoubled_from-doubled a) ∙ ap (undoubled_from false) same
    ∙ undoubled_from-doubled b

-- the answer tells whether a text is doubled
pub IsTrue-is_doubled : (quoted : List ℕ) (r : Bool) → r ≡ is_doubled_from false quoted
    → IsTrue r ↔ ((bytes : List ℕ) × (quoted ≡ doubled bytes))
IsTrue-is_doubled quoted true same = (λ holds. doubled_from false quoted (sym same), λ found. refl)
IsTrue-is_doubled quoted false same = (
  λ holds. cc,
  λ found. same ∙ ap (is_doubled_from false) found.1 ∙ is_doubled_from-doubled found.0,
)

-- the first of two quotes, and no second
pub is_doubled_from-lone : (halved : Bool) (quoted : List ℕ) (i : ℕ) → i < length quoted
    → halved ≡ true → get_or quoted i 0 ≢ 39 → is_doubled_from halved (drop i quoted) ≡ false
is_doubled_from-lone halved quoted i below first lone =
    let rest = drop-cons quoted i 0 below in
    let other : (get_or quoted i 0 == 39) ≡ false = grind (arith, nat_tests) in
    ap₂ is_doubled_from first rest ∙ ap (λ test. test
    && is_doubled_from false (drop (suc i) quoted)) other

-- the end
pub is_doubled_from-end : (halved : Bool) (quoted : List ℕ) (i : ℕ) → length quoted ≤ i
    → is_doubled_from halved (drop i quoted) ≡ not halved
is_doubled_from-end halved quoted i within =
    ap (is_doubled_from halved) (drop_of_length-le quoted within)

pub undoubled_from-end : (halved : Bool) (quoted : List ℕ) (i : ℕ) → length quoted ≤ i
    → undoubled_from halved (drop i quoted) ≡ []
undoubled_from-end halved quoted i within =
    ap (undoubled_from halved) (drop_of_length-le quoted within)
