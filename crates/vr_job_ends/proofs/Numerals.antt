-- Single words: the functions that the definition has for them hold exactly where the relations do.
use Rattle.std.proofs.Common.{◌≡◌, ℕ, ◌<◌, ◌≤◌, List, [], ◌∷◌, length, true, false, not, ◌==◌}
use Rattle.std.proofs.Common.{codes, refl, sym, ap, subst, inl, inr, Option, Some, None}
use Rattle.std.proofs.Common.{IfSome, IfNone, MatchOption, Bool, ◌||◌, bytes_eq, arith}
use Rattle.std.specs.Str.{all_ascii_digits}
use Rattle.std.specs.Str.Parse.{digits_value}
use Rattle.std.proofs.lemmas.Bool.{and_from, and_parts, le-leb, leb-true, ne_eqb, not_from_false}
use Rattle.std.proofs.lemmas.Bool.{false_from_ne_true, both_ways}
use Rattle.std.proofs.lemmas.Slice.Eq.{bytes_eq-Decides}
use Rattle.std.proofs.lemmas.Str.Parse.{IsNumeralModel, numerals_by_value, tells_all_ascii_digits}
use Rattle.vr_text.specs.Number.{IsNumber, number_of}
use Rattle.vr_job_ends.specs.Command.{IsName, IsNameOrDash, Writes}
use Rattle.vr_job_ends.specs.Words.{is_name, is_name_or_dash, is_numeral, is_count}

digits : IsNumeralModel (λ ds. all_ascii_digits ds ≡ true) (digits_value 10)
digits = numerals_by_value (λ ds. all_ascii_digits ds ≡ true) tells_all_ascii_digits

some_bytes : (word : List ℕ) → not (length word == 0) ≡ true → 0 < length word
some_bytes [] h = absurd (both_ways _ refl h)
some_bytes (b ∷ bs) h = omega arith

pub writes_from : (word : List ℕ) → is_numeral word ≡ true → Writes word (number_of word)
writes_from word h =
    let whole = and_parts _ _ h in
    let size = and_parts _ _ whole.0 in (
      (some_bytes word size.0, digits.to word whole.1),
      leb-true _ _ size.1,
      refl,
    )

pub numeral_from : (word : List ℕ) (n : ℕ) → Writes word n → is_numeral word ≡ true
numeral_from word n h =
    and_from _ _ (and_from _ _ (not_from_false _ (ne_eqb _ 0 (λ e. omega (arith, h.0.0))))
    (le-leb _ _ h.1)) (digits.from word h.0.1)

-- what `number` answers to a word of at most 10 bytes
pub number_read : (word : List ℕ) (r : Option ℕ) → length word ≤ 10
    → IfSome r (λ n. IsNumber word × (n ≡ number_of word)) → IfNone r (¬ IsNumber word)
    → MatchOption r (is_numeral word ≡ false)
    (λ n. (is_numeral word ≡ true) × (n ≡ number_of word))
number_read word None short some none =
    false_from_ne_true _ (λ h.
    let writes = writes_from word h in none (writes.0, omega (arith, writes.1)))
number_read word (Some n) short some none =
    (numeral_from word n (some.0.0, short, some.1), some.1)

pub name_from : (word : List ℕ) → is_name word ≡ true → IsName word
name_from word h rest same =
    both_ways _ refl (subst (λ (w : List ℕ). is_name w ≡ true) same h)

pub name_back : (word : List ℕ) → IsName word → is_name word ≡ true
name_back [] h = refl
name_back (b ∷ bs) h =
    not_from_false _ (ne_eqb b 45 (λ e. h bs (ap (λ (x : ℕ). x ∷ bs) e)))

name_or_dash_by : (word : List ℕ) (named dash : Bool) → is_name word ≡ named
    → bytes_eq word (codes "-") ≡ dash → (named || dash) ≡ true → IsNameOrDash word
name_or_dash_by word true dash name_is dash_is h = inl (name_from word name_is)
name_or_dash_by word false true name_is dash_is h = inr ((bytes_eq-Decides _ _).0 dash_is)
name_or_dash_by word false false name_is dash_is h = absurd (both_ways _ refl h)

pub name_or_dash_from : (word : List ℕ) → is_name_or_dash word ≡ true → IsNameOrDash word
name_or_dash_from word h = name_or_dash_by word _ _ refl refl h

pub name_or_dash_back : (word : List ℕ) → IsNameOrDash word → is_name_or_dash word ≡ true
name_or_dash_back word (inl name) =
    ap (λ (named : Bool). named || bytes_eq word (codes "-")) (name_back word name)
name_or_dash_back word (inr dash) = subst (λ (w : List ℕ). is_name_or_dash w ≡ true) (sym dash) refl

pub count_from : (word : List ℕ) → is_count word ≡ true
    → Writes word (number_of word) × (1 ≤ number_of word) × (number_of word ≤ 16)
count_from word h =
    let whole = and_parts _ _ h in
    let some = and_parts _ _ whole.0 in
    (writes_from word some.0, leb-true _ _ some.1, leb-true _ _ whole.1)

pub count_back : (word : List ℕ) (n : ℕ) → Writes word n → 1 ≤ n → n ≤ 16 → is_count word ≡ true
count_back word n h some few =
    and_from _ _ (and_from _ _ (numeral_from word n h)
    (le-leb _ _ (subst (λ (m : ℕ). 1 ≤ m) h.2 some)))
    (le-leb _ _ (subst (λ (m : ℕ). m ≤ 16) h.2 few))
