-- Names and numbers: the functions that Words has for them answer what the rules of both say.
use Rattle.std.proofs.Common.{◌≡◌, ◌≢◌, ℕ, suc, ◌<◌, List, [], ◌∷◌, length, true, false, not}
use Rattle.std.proofs.Common.{◌==◌, nat_lt, get_or, refl, sym, subst, ap, ◌∙◌, Option, Some, None, IfSome}
use Rattle.std.proofs.Common.{IfNone, arith}
use Rattle.std.specs.Bool.{Decides}
use Rattle.std.specs.List.{list_all}
use Rattle.std.specs.Char.{digit_value}
use Rattle.std.specs.Str.{IsUtf8}
use Rattle.std.specs.Str.Parse.{AllDigits}
use Rattle.std.proofs.lemmas.Bool.{and_from, and_left, and_right, and_parts, lt-ltb, ltb-true, le-leb}
use Rattle.std.proofs.lemmas.Bool.{lt-leb, leb-true, ne_eqb, not_from_false, false_from_ne_true, both_ways}
use Rattle.std.proofs.lemmas.Bool.{cond-true, cond-false, true_from_ne_false}
use Rattle.std.proofs.lemmas.Bool.Decides.{Decides-below_and}
use Rattle.std.proofs.lemmas.List.Folds.{list_all_at}
use Rattle.std.proofs.lemmas.Str.{IsUtf8-from_ascii}
use Rattle.std.proofs.lemmas.Str.Ascii.{IsAscii-from_all}
use Rattle.vr_types.specs.declared.name.NameFault.{NameFault}
use Rattle.vr_types.specs.declared.name.NameFault.TheVariants.{Empty, TooLong, Qualifier, Memory}
use Rattle.vr_types.specs.Name.{IsDatasetName, CauseOf, is_right_at}
use Rattle.vr_text.specs.Number.{IsNumber, number_of}
use Rattle.vr_types.specs.Name.{in_capitals}
use Rattle.vr_text.specs.Words.{is_plain, is_right_below, is_name, name_in, is_numeral, number_in}

-- each byte of a plain text is a character of ASCII, so that the text is UTF-8
each_plain : (text : List ℕ) → is_plain text ≡ true → (k d : ℕ) → k < length text
    → nat_lt (get_or text k d) 128 ≡ true
each_plain text h k d l =
    true_from_ne_false _ (λ e. both_ways _ (list_all_at (λ b. nat_lt b 128) text k d l e) h)

pub plain_is_utf8 : (text : List ℕ) → is_plain text ≡ true → IsUtf8 text
plain_is_utf8 text h =
    IsUtf8-from_ascii text (IsAscii-from_all text (λ k d l. ltb-true _ _ (each_plain text h k d l)))

right_decides : (text : List ℕ) (n : ℕ)
    → Decides (is_right_below text n) ((i : ℕ) → i < n → is_right_at text i ≡ true)
right_decides text n =
    Decides-below_and (is_right_at text) (λ i. is_right_at text i ≡ true) (is_right_below text)
    (λ i. (λ h. h, λ h. h)) refl (λ _. refl) n

not_empty : (n : ℕ) → 0 < n → not (n == 0) ≡ true
not_empty n h = not_from_false _ (ne_eqb n 0 (λ e. omega arith))

longer : (text : List ℕ) → text ≢ [] → 0 < length text
longer [] h = absurd (h refl)
longer (x ∷ xs) h = omega arith

name_true : (text : List ℕ) → is_plain text ≡ true → IsDatasetName text → is_name text ≡ true
name_true text plain h =
    and_from _ _ (and_from _ _ (and_from _ _ plain (not_empty _ (longer text h.some)))
    (le-leb _ _ h.short))
    ((right_decides text (suc (length text))).1 (λ i k. h.right i (omega arith)))

pub name_there : (text name : List ℕ) → is_plain text ≡ true → IsDatasetName text
    → name ≡ in_capitals text → Some name ≡ name_in text
name_there text name plain h same =
    ap Some same ∙ sym (cond-true _ _ _ (name_true text plain h))

name_false : (text : List ℕ) (fault : NameFault) → CauseOf text fault → fault ≢ Memory
    → is_name text ≡ false
name_false text Empty h other = subst (λ (t : List ℕ). is_name t ≡ false) (sym h) refl
name_false text (TooLong n) h other = and_left _ _ (and_right _ _ (lt-leb _ _ h.0))
name_false text (Qualifier at) h other =
    and_right _ _ (false_from_ne_true _ (λ all.
    let within : at < suc (length text) = omega (arith, h.2.within) in
    both_ways _ h.2.bad ((right_decides text (suc (length text))).0 all at within)))
name_false text Memory h other = absurd (other refl)

pub name_absent : (text : List ℕ) (fault : NameFault) → CauseOf text fault → fault ≢ Memory
    → None ≡ name_in text
name_absent text fault h other = sym (cond-false _ _ _ (name_false text fault h other))

digits_true : (text : List ℕ) → AllDigits 10 text
    → list_all (λ b. nat_lt (digit_value b) 10) text ≡ true
digits_true [] h = refl
digits_true (c ∷ cs) h = and_from _ _ (lt-ltb _ _ h.0) (digits_true cs h.1)

digits_back : (text : List ℕ) → list_all (λ b. nat_lt (digit_value b) 10) text ≡ true
    → AllDigits 10 text
digits_back [] h = tt
digits_back (c ∷ cs) h =
    let parts = and_parts _ _ h in (ltb-true _ _ parts.0, digits_back cs parts.1)

some_text : (text : List ℕ) → not (length text == 0) ≡ true → 0 < length text
some_text [] h = absurd (both_ways _ refl h)
some_text (x ∷ xs) h = omega arith

numeral_true : (text : List ℕ) → is_plain text ≡ true → IsNumber text → is_numeral text ≡ true
numeral_true text plain h =
    and_from _ _ (and_from _ _ (and_from _ _ plain (not_empty _ h.0.0)) (le-leb _ _ h.1))
    (digits_true text h.0.1)

numeral_back : (text : List ℕ) → is_numeral text ≡ true → IsNumber text
numeral_back text h =
    let whole = and_parts _ _ h in
    let short = and_parts _ _ whole.0 in
    let some = and_parts _ _ short.0 in
    ((some_text text some.1, digits_back text whole.1), leb-true _ _ short.1)

pub number_plain : (text : List ℕ) (result : Option ℕ) → is_plain text ≡ true
    → IfSome result (λ n. IsNumber text × (n ≡ number_of text)) → IfNone result (¬ IsNumber text)
    → result ≡ number_in text
number_plain text (Some n) plain some none =
    ap Some some.1 ∙ sym (cond-true _ _ _ (numeral_true text plain some.0))
number_plain text None plain some none =
    sym (cond-false _ _ _ (false_from_ne_true _ (λ h. none (numeral_back text h))))
