-- What the crates above cite of literals: one value, one form, one cause.
use Rattle.std.proofs.Common.{◌≡◌, subst, Result, Ok, Err, IfErr, IsErrAnd, ℕ, ◌+◌, ◌<◌, true}
use Rattle.std.proofs.Common.{false, inl, inr, cond, Bool, List, ◌++◌, Contains, get_or, flat_map}
use Rattle.std.proofs.Common.{codes, refl, sym, ap, ◌∙◌, arith}
use Rattle.std.specs.List.{AllByRecursion, list_all}
use Rattle.std.proofs.lemmas.List.{append_cancel_left, append_cancel_right}
use Rattle.vr_text.specs.declared.literal.LiteralFault.{LiteralFault}
use Rattle.vr_text.specs.declared.literal.LiteralFault.TheVariants.{Unclosed, Digit, Memory}
use Rattle.vr_text.specs.Literal.{doubled, character_form, hexadecimal_form, digit_pair, literal_of}
use Rattle.vr_text.specs.Literal.{is_printable, IsLiteral, CauseOf}
use Rattle.vr_text.specs.LiteralParts.{CauseInDigits}
use Rattle.vr_text.proofs.Quotes.{doubled_same}
use Rattle.vr_text.proofs.Digits.{SpellsBytes-digit_pair, SpellsBytes_same, no_quote, no_bad_digit}
use Rattle.vr_text.proofs.Digits.{first_bad_same}

-- what is in a form is known from the text
pub hexadecimal_form_same : (a b : List ℕ) → hexadecimal_form a ≡ hexadecimal_form b → a ≡ b
hexadecimal_form_same a b same = append_cancel_left (codes "X'") a b
    (append_cancel_right (codes "X'" ++ a) (codes "X'" ++ b) (codes "'") same)

pub character_form_same : (a b : List ℕ) → character_form a ≡ character_form b → a ≡ b
character_form_same a b same = doubled_same a b
    (append_cancel_left (codes "C'") (doubled a) (doubled b)
    (append_cancel_right (codes "C'" ++ doubled a) (codes "C'" ++ doubled b) (codes "'") same))

-- no text has both forms
pub one_form : (bytes digits : List ℕ) → character_form bytes ≡ hexadecimal_form digits → ⊥
one_form bytes digits same = let first : List ℕ → ℕ =
    λ text. get_or text 0 0 in let heads : first (character_form bytes) ≡ first
    (hexadecimal_form digits) = ap first same in absurd (omega arith)

-- a text is a literal of one list of bytes
pub one_value : (text a b : List ℕ) → IsLiteral text a → IsLiteral text b → a ≡ b
one_value text a b (inl g) (inl h) = character_form_same a b (sym g ∙ h)
one_value text a b (inl g) (inr h) = absurd (one_form a h.0 (sym g ∙ h.1))
one_value text a b (inr g) (inl h) = absurd (one_form b g.0 (sym h ∙ g.1))
one_value text a b (inr g) (inr h) =
    let digits : h.0 ≡ g.0 = hexadecimal_form_same h.0 g.0 (sym h.1 ∙ g.1) in
    SpellsBytes_same g.0 a b g.2 (rw digits at h.2)

-- the spelling that is written is a literal of the bytes
pub written_is_read : (bytes : List ℕ) → AllByRecursion (λ b. b < 256) bytes
    → IsLiteral (literal_of bytes) bytes
written_is_read bytes all =
    elim (list_all is_printable bytes) as (λ (printable : Bool). IsLiteral
    (cond printable (character_form bytes) (hexadecimal_form (flat_map digit_pair bytes)))
    bytes) [
      | true ↦ inl refl
      | false ↦ inr (flat_map digit_pair bytes, refl, SpellsBytes-digit_pair bytes all)
    ]

-- a literal is closed
not_unclosed : (text bytes : List ℕ) → IsLiteral text bytes → CauseOf text Unclosed → ⊥
not_unclosed text bytes (inl h) cause = cause.0 bytes h
not_unclosed text bytes (inr h) cause =
    cause.1 h.0 (record { form = h.1; quotes = no_quote h.0 bytes h.2 })

-- and its digits are right
not_bad_digit : (text bytes : List ℕ) (at : ℕ) → IsLiteral text bytes → CauseOf text (Digit at) → ⊥
not_bad_digit text bytes at (inl h) cause = one_form bytes cause.0 (sym h ∙ cause.2.form)
not_bad_digit text bytes at (inr h) cause =
    let digits : h.0 ≡ cause.0 = hexadecimal_form_same h.0 cause.0 (sym h.1 ∙ cause.2.form) in
    no_bad_digit cause.0 bytes cause.1 (rw digits at h.2) cause.3

-- so a literal has no cause but out of memory
pub literal_has_no_cause : (text bytes : List ℕ) (fault : LiteralFault) → IsLiteral text bytes
    → CauseOf text fault → fault ≡ Memory
literal_has_no_cause text bytes Unclosed literal cause =
    absurd (not_unclosed text bytes literal cause)
literal_has_no_cause text bytes (Digit at) literal cause =
    absurd (not_bad_digit text bytes at literal cause)
literal_has_no_cause text bytes Memory literal cause = refl

-- the digit is one
digit_same : (text : List ℕ) (a b : ℕ) → CauseOf text (Digit a) → CauseOf text (Digit b) → a ≡ b
digit_same text a b cause cause_is =
    let digits : cause_is.0 ≡ cause.0 = hexadecimal_form_same cause_is.0 cause.0
    (sym cause_is.2.form ∙ cause.2.form) in
    cause.4 ∙ ap (λ i. i + 2) (first_bad_same cause.0 cause.1 cause_is.1 cause.3
    (rw digits at cause_is.3)) ∙ sym cause_is.4

-- no text has two causes
pub one_cause : (text : List ℕ) (a b : LiteralFault) → CauseOf text a → CauseOf text b → a ≡ b
one_cause text Unclosed Unclosed cause cause_is = refl
one_cause text Unclosed (Digit b) cause cause_is = absurd (cause.1 cause_is.0 cause_is.2)
one_cause text (Digit a) Unclosed cause cause_is = absurd (cause_is.1 cause.0 cause.2)
one_cause text (Digit a) (Digit b) cause cause_is = ap Digit (digit_same text a b cause cause_is)
one_cause text Memory b cause cause_is = sym (literal_has_no_cause text cause.0 b cause.1 cause_is)
one_cause text Unclosed Memory cause cause_is =
    literal_has_no_cause text cause_is.0 Unclosed cause_is.1 cause
one_cause text (Digit a) Memory cause cause_is =
    literal_has_no_cause text cause_is.0 (Digit a) cause_is.1 cause

-- what is wrong with the digits is wrong with the text
pub cause_of_digits : (text digits : List ℕ) (fault : LiteralFault)
    → text ≡ hexadecimal_form digits → CauseInDigits digits fault → CauseOf text fault
cause_of_digits text digits Unclosed form quote = (
  λ bytes characters. one_form bytes digits (sym characters ∙ form),
  λ others closed. closed.quotes (subst (λ ds. Contains ds 39)
      (hexadecimal_form_same digits others (sym form ∙ closed.form)) quote),
)
cause_of_digits text digits (Digit at) form cause =
    (digits, cause.0, record { form = form; quotes = cause.1 }, cause.2, cause.3)
cause_of_digits text digits Memory form cause = (cause.0, inr (digits, form, cause.1))

pub IfErr-cause_of_digits : {T : Type 0} (text digits : List ℕ) (r : Result T LiteralFault)
    → text ≡ hexadecimal_form digits → IfErr r (CauseInDigits digits) → IfErr r (CauseOf text)
IfErr-cause_of_digits text digits (Ok x) form cause = tt
IfErr-cause_of_digits text digits (Err fault) form cause =
    cause_of_digits text digits fault form cause

-- a fault that is out of memory has its cause
pub IfErr-memory : {T : Type 0} (r : Result T LiteralFault) (Cause : LiteralFault → Type 0)
    → IsErrAnd r (λ fault. fault ≡ Memory) → Cause Memory → IfErr r Cause
IfErr-memory (Ok x) Cause is cause = tt
IfErr-memory (Err fault) Cause is cause = subst Cause (sym is) cause
