-- Every text is cut to its end or to a fault.
use Rattle.std.proofs.Common.{◌≡◌, ◌≢◌, ◌⊎◌, ℕ, zero, suc, ◌+◌, ◌<◌, Bool, true, false, Option}
use Rattle.std.proofs.Common.{Some, None, List, [], ◌∷◌, length, map, drop, refl, ap, inl}
use Rattle.std.proofs.Common.{inr, arith, length-append}
use Rattle.std.proofs.lemmas.Bool.{cases_lt}
use Rattle.std.specs.Char.{to_ascii_uppercase}
use Rattle.vr_text.specs.Lines.{Line}
use Rattle.vr_scan.specs.declared.mark.Mark.{Mark}
use Rattle.vr_scan.specs.declared.mark.Sign.{Sign}
use Rattle.vr_scan.specs.declared.mark.Sign.TheVariants.{Character, LineEnd}
use Rattle.vr_scan.specs.declared.mark.Sign.TheVariants.{OpenEnd as OpenEndSign}
use Rattle.vr_scan.specs.declared.class.Class.{Class}
use Rattle.vr_scan.specs.declared.class.Class.TheVariants.{Gap, Comment, Stop, LeftParenthesis}
use Rattle.vr_scan.specs.declared.class.Class.TheVariants.{RightParenthesis, Comparison}
use Rattle.vr_scan.specs.declared.class.Class.TheVariants.{QuotedCharacters, QuotedDigits}
use Rattle.vr_scan.specs.declared.class.Class.TheVariants.{Word as WordClass, OpenEnd}
use Rattle.vr_scan.specs.declared.fault.FormCause.TheVariants.{OpenComment, OpenLiteral, Digit}
use Rattle.vr_scan.specs.declared.fault.FormCause.TheVariants.{Continuation}
use Rattle.vr_scan.specs.declared.fault.FormFault.{FormFault}
use Rattle.vr_scan.specs.declared.token.TokenKind.TheVariants.{Word, Characters, Hex, Compare}
use Rattle.vr_scan.specs.declared.token.TokenKind.TheVariants.{Open, Close}
use Rattle.vr_scan.specs.Token.{Token}
use Rattle.vr_scan.specs.Mark.{marks_of}
use Rattle.vr_scan.specs.Class.{begins, class_of, is_sign}
use Rattle.vr_scan.specs.Piece.{Piece, Nothing, Spelled, Ended, token, IsByte, IsClosingQuote}
use Rattle.vr_scan.specs.Piece.{Spells, IsPiece, IsPieceOf, IsFault, IsFaultOf, after_comment}
use Rattle.vr_scan.specs.Piece.{after_word}
use Rattle.vr_scan.specs.Piece.{after_comparison, after_inner, comparison, first_bad, inner, paired}
use Rattle.vr_scan.specs.Piece.{bytes_of, word, fault_at}
use Rattle.vr_scan.specs.Scan.{Cuts, tokens_from, IsTokens, IsFirstFault}
use Rattle.vr_scan.proofs.Quotes.{spells_left, spells_nothing, sign_is}
use Rattle.vr_scan.proofs.Suffixes.{piece_suffix}

abbrev pub Spelling : List Mark → Type 0
Spelling text = ((bytes : List ℕ) × (rest : List Mark) × Spells text bytes rest)
    ⊎ ((bytes : List ℕ) (rest : List Mark) → Spells text bytes rest → ⊥)

-- a byte before a text whose spelling is known
byte_before : (b : ℕ) (all text : List Mark) → IsByte b all text → Spelling text → Spelling all
byte_before b all text byte (inl s) = inl (b ∷ s.0, s.1, (text, byte, s.2))
byte_before b all text byte (inr none) = inr (λ bytes rest spells.
    let left = spells_left b all text byte bytes rest spells in none left.0 rest left.1)

closes : (mark : Mark) (text : List Mark) → mark.sign ≡ Character 39 → begins 39 text ≡ false
    → Spelling (mark ∷ text)
closes mark text quote alone =
    inl ([], text, record { mark = mark; quote = quote; closes = refl; alone = alone })

-- where neither a byte nor a quote begins
no_spelling : (text : List Mark) → ((b : ℕ) (left : List Mark) → IsByte b text left → ⊥)
    → ((rest : List Mark) → IsClosingQuote text rest → ⊥) → Spelling text
no_spelling text no_byte no_quote = inr (λ bytes rest spells.
    no_quote rest (spells_nothing text no_byte bytes rest spells))

empty_byte : (b : ℕ) (left : List Mark) → IsByte b [] left → ⊥
empty_byte b left p = elim p.spelled [ inl x ↦ cc (x.1) | inr y ↦ cc (y.3) ]

empty_quote : (rest : List Mark) → IsClosingQuote [] rest → ⊥
empty_quote rest q = let e = q.closes in cc (e)

other_byte : (mark : Mark) (text : List Mark) → ((b : ℕ) → mark.sign ≡ Character b → ⊥)
    → (b : ℕ) (left : List Mark) → IsByte b (mark ∷ text) left → ⊥
other_byte mark text other b left p =
    elim p.spelled [
      | inl x ↦
          let same : p.mark ≡ mark = cc (x.1) in
          other b (rw (← same) p.is_byte)
      | inr y ↦
          let same : p.mark ≡ mark = cc (y.3) in
          other b (rw (← same) p.is_byte)
    ]

other_quote : (mark : Mark) (text : List Mark) → ((b : ℕ) → mark.sign ≡ Character b → ⊥)
    → (rest : List Mark) → IsClosingQuote (mark ∷ text) rest → ⊥
other_quote mark text other rest q =
    let e = q.closes in
    let same : q.mark ≡ mark = cc (e) in
    other 39 (rw (← same) q.quote)

same_or_not : (b : ℕ) → (b ≡ 39) ⊎ (b ≢ 39)
same_or_not b =
    elim (cases_lt b 39) [
      | inl below ↦ inr (λ e. let h : ⊥ = omega (arith, below, e) in h)
      | inr above ↦ elim (cases_lt 39 b) [
        | inl past ↦ inr (λ e. let h : ⊥ = omega (arith, past, e) in h)
        | inr at ↦ inl (omega (arith, above, at))
      ]
    ]

quote_second : (m : ℕ) (mark second : Mark) (text : List Mark) → mark.sign ≡ Character 39
    → ((t : List Mark) → length t < m → Spelling t) → length text < m
    → (doubled : Bool) → is_sign 39 second.sign ≡ doubled → Spelling (mark ∷ second ∷ text)
quote_second m mark second text quote known short true is =
    byte_before 39 (mark ∷ second ∷ text) text
    (record {
      mark = mark;
      is_byte = quote;
      spelled = inr (refl, second, sign_is 39 second.sign is, refl);
    })
    (known text short)
quote_second m mark second text quote known short false is = closes mark (second ∷ text) quote is

-- a quote, and whether another follows it
quote_first : (m : ℕ) (mark : Mark) (text : List Mark) → mark.sign ≡ Character 39
    → ((t : List Mark) → length t < m → Spelling t) → length (mark ∷ text) < suc m
    → Spelling (mark ∷ text)
quote_first m mark [] quote known short = closes mark [] quote refl
quote_first m mark (second ∷ text) quote known short =
    quote_second m mark second text quote known (omega (arith, short)) (is_sign 39 second.sign) refl

character_first : (m : ℕ) (mark : Mark) (text : List Mark) (sign : Sign) → mark.sign ≡ sign
    → ((t : List Mark) → length t < m → Spelling t) → length (mark ∷ text) < suc m
    → Spelling (mark ∷ text)
character_first m mark text (Character b) is known short =
    elim (same_or_not b) [
      | inl e ↦ quote_first m mark text (rw e at is) known short
      | inr other ↦ byte_before b (mark ∷ text) text
          (record { mark = mark; is_byte = is; spelled = inl (other, refl) })
          (known text (omega (arith, short)))
    ]
character_first m mark text LineEnd is known short =
    no_spelling (mark ∷ text)
    (other_byte mark text (λ b e. let h : ⊥ = cc (is, e) in h))
    (other_quote mark text (λ b e. let h : ⊥ = cc (is, e) in h))
character_first m mark text OpenEndSign is known short =
    no_spelling (mark ∷ text)
    (other_byte mark text (λ b e. let h : ⊥ = cc (is, e) in h))
    (other_quote mark text (λ b e. let h : ⊥ = cc (is, e) in h))

spelling_more : (m : ℕ) (text : List Mark) → ((t : List Mark) → length t < m → Spelling t)
    → length text < suc m → Spelling text
spelling_more m [] known short = no_spelling [] empty_byte empty_quote
spelling_more m (mark ∷ text) known short =
    character_first m mark text mark.sign refl known short

spelling_below : (m : ℕ) (text : List Mark) → length text < m → Spelling text
spelling_below zero text short = let h : ⊥ = omega (arith, short) in absurd h
spelling_below (suc m) text short =
    spelling_more m text (λ t k. spelling_below m t k) short

spelling : (text : List Mark) → Spelling text
spelling text = spelling_below (length text + 1) text (omega arith)

option_cases : {A : Type 0} (o : Option A) → ((x : A) × (o ≡ Some x)) ⊎ (o ≡ None)
option_cases None = inr refl
option_cases (Some x) = inl (x, refl)

bool_cases : (b : Bool) → (b ≡ true) ⊎ (b ≡ false)
bool_cases true = inl refl
bool_cases false = inr refl

abbrev pub Found : Class → Mark → List Mark → Type 0
Found class mark text =
    ((piece : Piece) × (rest : List Mark) × IsPieceOf class mark text piece rest)
    ⊎ ((fault : FormFault) × IsFaultOf class mark text fault)

found : (class : Class) (mark : Mark) (text : List Mark) → Found class mark text
found Gap mark text = inl (Nothing, text, (refl, refl))
found Comment mark text =
    elim (option_cases (after_comment (drop 1 text))) [
      | inl x ↦ inl (Nothing, x.0, (refl, x.1))
      | inr e ↦ inr (fault_at OpenComment mark, (refl, e))
    ]
found Stop mark text = inl (Ended mark.line mark.column, text, (refl, refl))
found LeftParenthesis mark text = inl (Spelled (token Open [] mark), text, (refl, refl))
found RightParenthesis mark text = inl (Spelled (token Close [] mark), text, (refl, refl))
found Comparison mark text =
    inl (
      Spelled (token Compare (comparison mark text) mark),
      after_comparison mark text,
      (refl, refl),
    )
found QuotedCharacters mark text =
    elim (spelling (drop 1 text)) [
      | inl s ↦ inl (Spelled (token Characters s.0 mark), s.1, (s.0, refl, s.2))
      | inr none ↦ inr (fault_at OpenLiteral mark, (refl, none))
    ]
found QuotedDigits mark text =
    elim (bool_cases (begins 39 (after_inner (drop 1 text)))) [
      | inl closed ↦ elim (option_cases (first_bad (inner (drop 1 text)))) [
        | inl bad ↦ inr (fault_at Digit bad.0, inr (closed, bad.0, bad.1, refl))
        | inr good ↦ inl (
          Spelled (token Hex (paired (inner (drop 1 text))) mark),
          drop 1 (after_inner (drop 1 text)),
          (refl, closed, good, refl),
        )
      ]
      | inr stays ↦ inr (
        fault_at OpenLiteral mark,
        inl (refl, (λ closed. let h : ⊥ = cc (closed, stays) in h)),
      )
    ]
found WordClass mark text =
    inl (
      Spelled (token Word (map to_ascii_uppercase (bytes_of (mark ∷ word text))) mark),
      after_word text,
      (refl, refl),
    )
found OpenEnd mark text = inr (fault_at Continuation mark, refl)

abbrev pub Outcome : List Mark → Type 0
Outcome text = ((pieces : List Piece) × Cuts text pieces [])
    ⊎ ((pieces : List Piece) × (rest : List Mark) × (fault : FormFault) × Cuts text pieces rest
    × IsFault rest fault)

piece_before : (text mid : List Mark) (piece : Piece)
    → IsPiece text piece mid → Outcome mid → Outcome text
piece_before text mid piece is (inl all) = inl (piece ∷ all.0, (mid, is, all.1))
piece_before text mid piece is (inr part) =
    inr (piece ∷ part.0, part.1, part.2, (mid, is, part.3), part.4)

outcome_more : (m : ℕ) (text : List Mark) → ((t : List Mark) → length t < m → Outcome t)
    → length text < suc m → Outcome text
outcome_more m [] known short = inl ([], refl)
outcome_more m (mark ∷ text) known short =
    elim (found (class_of mark text) mark text) [
      | inl x ↦
          let suffix = piece_suffix (class_of mark text) mark text x.0 x.1 x.2 in
          let split = ap length suffix.split in
          let sum = length-append suffix.taken x.1 in
          piece_before (mark ∷ text) x.1 x.0 x.2
          (known x.1 (omega (arith, split, sum, short)))
      | inr y ↦ inr ([], mark ∷ text, y.0, refl, y.1)
    ]

outcome_below : (m : ℕ) (text : List Mark) → length text < m → Outcome text
outcome_below zero text short = let h : ⊥ = omega (arith, short) in absurd h
outcome_below (suc m) text short = outcome_more m text (λ t k. outcome_below m t k) short

pub tokens_or_a_fault : (lines : List Line)
    → ((tokens : List Token) × IsTokens lines tokens)
    ⊎ ((fault : FormFault) × IsFirstFault lines fault)
tokens_or_a_fault lines =
    elim (outcome_below (length (marks_of lines) + 1) (marks_of lines) (omega arith)) [
      | inl all ↦ inl (
        tokens_from false all.0,
        record { pieces = all.0; cut = all.1; are = refl },
      )
      | inr part ↦ inr (
        part.2,
        record { pieces = part.0; rest = part.1; before = part.3; there = part.4 },
      )
    ]
