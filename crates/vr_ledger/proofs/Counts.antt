-- How often a deck stands in a list.
use Rattle.std.proofs.Common.{◌≡◌, ◌≢◌, ℕ, ◌+◌, List, [], ◌∷◌, Bool, cond, not, sym, refl, ap, ◌∙◌}
use Rattle.std.proofs.Common.{arith, eq-eqb, ne_eqb}
use Rattle.std.specs.Prelude.{◌==◌}
use Rattle.std.proofs.lemmas.List.Sums.{sum_by-cons}
use mathlib.Core.Logic.{dite}
use native.Mathlib.Decide.{ℕ_discrete}
use Rattle.vr_ledger.specs.Decks.{times, without}

-- 1 for the deck itself, and 0 for another
abbrev pub one_if : ℕ → ℕ → ℕ
one_if deck other = cond (other == deck) 1 0

pub one_if-same : (deck : ℕ) → one_if deck deck ≡ 1
one_if-same deck = ap (λ (test : Bool). cond test 1 0) (eq-eqb deck deck refl)

pub one_if-other : (deck other : ℕ) → other ≢ deck → one_if deck other ≡ 0
one_if-other deck other apart = ap (λ (test : Bool). cond test 1 0) (ne_eqb other deck apart)

pub times-cons : (deck first : ℕ) (decks : List ℕ)
    → times deck (first ∷ decks) ≡ one_if deck first + times deck decks
times-cons deck first decks = sum_by-cons (one_if deck) first decks

-- the list without a deck
abbrev kept_if : Bool → ℕ → List ℕ → List ℕ
kept_if same first decks = cond (not same) (first ∷ decks) decks

-- has the deck no more,
pub times-without_same : (deck : ℕ) (decks : List ℕ) → times deck (without deck decks) ≡ 0
times-without_same deck [] = refl
times-without_same deck (first ∷ decks) = dite (ℕ_discrete first deck)
    (λ same. ap (λ (test : Bool). times deck (kept_if test first (without deck decks)))
    (eq-eqb first deck same) ∙ times-without_same deck decks)
    (λ apart. ap (λ (test : Bool). times deck (kept_if test first (without deck decks)))
    (ne_eqb first deck apart) ∙ omega (
      arith,
      times-cons deck first (without deck decks),
      one_if-other deck first apart,
      times-without_same deck decks,
    ))

-- and each other as often as before
pub times-without_other : (deck other : ℕ) (decks : List ℕ) → deck ≢ other
    → times deck (without other decks) ≡ times deck decks
times-without_other deck other [] apart = refl
times-without_other deck other (first ∷ decks) apart = dite (ℕ_discrete first other)
    (λ same. ap (λ (test : Bool). times deck (kept_if test first (without other decks)))
    (eq-eqb first other same) ∙ omega (
      arith,
      times-cons deck first decks,
      one_if-other deck first (λ is. apart (sym is ∙ same)),
      times-without_other deck other decks apart,
    ))
    (λ others. ap (λ (test : Bool). times deck (kept_if test first (without other decks)))
    (ne_eqb first other others) ∙ omega (
      arith,
      times-cons deck first (without other decks),
      times-cons deck first decks,
      times-without_other deck other decks apart,
    ))
