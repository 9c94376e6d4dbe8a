-- What the parts of a job's text come to, line by line.
use Rattle.std.proofs.Common.{◌≡◌, ℕ, ◌+◌, ◌<◌, ◌≤◌, ◌==◌, ◌||◌, nat_le, Bool, true, false, cond}
use Rattle.std.proofs.Common.{List, [], ◌∷◌, ◌++◌, length, Option, Some, None, Result, Ok, Err, sum_by}
use Rattle.std.proofs.Common.{count_by, refl, sym, ap, subst, ◌∙◌, arith, length-append, inl, inr}
use Rattle.std.proofs.Common.{bytes_eq, codes}
use Rattle.std.specs.List.{list_any}
use Rattle.std.proofs.lemmas.Bool.{cases_Bool, and_parts, leb-true, leb-false, not-true, both_ways}
use Rattle.std.proofs.lemmas.Bool.Decides.{Decides-eqb}
use Rattle.std.proofs.lemmas.List.Sums.{sum_by-cons, sum_by_push}
use Rattle.vr_deck_text.specs.Words.{without_end}
use Rattle.vr_job_text.specs.declared.card.Card.{Card}
use Rattle.vr_job_text.specs.declared.card.Card.TheVariants.{Nothing, Step as StepCard, Data as DataCard}
use Rattle.vr_job_text.specs.declared.card.Program.{Program}
use Rattle.vr_job_text.specs.declared.card.Program.TheVariants.{Decks, Utilities}
use Rattle.vr_job_text.specs.declared.fault.CardCause.TheVariants.{Misspelled, StrayText}
use Rattle.vr_job_text.specs.declared.fault.CardCause.TheVariants.{DeckNumber, Character}
use Rattle.vr_job_text.specs.declared.fault.CardCause.TheVariants.{LongData, TooManyDecks, DataTwice}
use Rattle.vr_job_text.specs.declared.fault.CardFault.{CardFault}
use Rattle.vr_job_text.specs.declared.fault.TextFault.{TextFault}
use Rattle.vr_job_text.specs.declared.reading.Begun.{Begun}
use Rattle.vr_job_text.specs.declared.reading.Part.{Part}
use Rattle.vr_job_text.specs.declared.reading.PartKind.TheVariants.{Deck, Commands, Data}
use Rattle.vr_job_text.specs.declared.reading.Reading.{Reading}
use Rattle.vr_job_text.specs.declared.reading.StepText.{StepText}
use Rattle.vr_job_text.specs.Card.{is_card, card_of, name_on, deck_number}
use Rattle.vr_job_text.specs.Fault.{wrong}
use Rattle.vr_job_text.specs.Layout.{unread, faulted, with_open, closed, opened, line_added}
use Rattle.vr_job_text.specs.Layout.{step_text, step_added, ended_by, ended, going_after, begun_at}
use Rattle.vr_job_text.specs.Layout.{may_number, announced, with_number, with_deck_card, is_named}
use Rattle.vr_job_text.specs.Layout.{with_data_name, with_dd, with_data_of, with_data, with_card}
use Rattle.vr_job_text.specs.Layout.{is_long, text_kept, with_body}
use Rattle.vr_job_text.specs.Layout.{with_text, unless_bad, with_next, with_lines}
use Rattle.vr_job_text.specs.Layout.{finished_by, laid}
use Rattle.vr_job_text.specs.Text.{job_lines, first_bad, unindented, column_of}

-- A measure of parts: what one has by its card, and how much a line more adds at most.
pub record Measure : Type 0 where
  pub part : Part → ℕ
  pub deck : ℕ → ℕ
  pub line : ℕ
  pub commands : part (record { kind = Commands; lines = [] }) ≡ 0
  pub inputs : (name : List ℕ) → part (record { kind = Data name; lines = [] }) ≡ 0
  pub decks : (number : ℕ) → part (record { kind = Deck number; lines = [] }) ≡ deck number
  pub added : (one : Part) (number : ℕ) (text : List ℕ)
      → part (line_added one number text) ≤ part one + line

abbrev pub of_text : (Part → ℕ) → StepText → ℕ
of_text part text = sum_by part text.parts

abbrev pub of_going : (Part → ℕ) → Option Part → ℕ
of_going part None = 0
of_going part (Some one) = part one

abbrev pub total : (Part → ℕ) → Reading → ℕ
total part reading =
    sum_by (of_text part) reading.steps
    + (sum_by part reading.parts + of_going part reading.going)

abbrev pub is_number : ℕ → ℕ → Bool
is_number number other = other == number

-- the numbers of decks that were announced
pub record AreUsed (used : List ℕ) : Type 0 where
  pub few : length used ≤ 64
  pub once : (number : ℕ) → count_by (is_number number) used ≤ 1
  pub within : (number : ℕ) → 0 < count_by (is_number number) used
      → (1 ≤ number) × (number ≤ 99)

-- the parts so far come to no more than the cards and the lines so far
pub record IsMeasured (m : Measure) (bound : ℕ) (reading : Reading) : Type 0 where
  pub sum : total m.part reading ≤ sum_by m.deck reading.used + bound
  pub used : AreUsed reading.used

moved : (m : Measure) (bound : ℕ) (one other : Reading) → one.used ≡ other.used
    → total m.part other ≤ total m.part one → IsMeasured m bound one → IsMeasured m bound other
moved m bound one other same less h = record {
  sum = omega (arith, less, h.sum, ap (sum_by m.deck) same);
  used = subst AreUsed same h.used;
}

-- one of two values
pub chosen : {A : Type 0} (P : A → Type 0) (b : Bool) (x y : A) → (b ≡ true → P x)
    → (b ≡ false → P y) → P (cond b x y)
chosen P true x y h g = h refl
chosen P false x y h g = g refl

faulted_measured : (m : Measure) (bound : ℕ) (reading : Reading) (number : ℕ) (fault : CardFault)
    → IsMeasured m bound reading → IsMeasured m bound (faulted reading number fault)
faulted_measured m bound reading number fault h =
    moved m bound reading (faulted reading number fault) refl (omega arith) h

open_sum : (part : Part → ℕ) (parts : List Part) (going : Option Part)
    → sum_by part (with_open parts going) ≡ sum_by part parts + of_going part going
open_sum part parts None = omega arith
open_sum part parts (Some one) = sum_by_push part parts one

closed_measured : (m : Measure) (bound : ℕ) (reading : Reading) → IsMeasured m bound reading
    → IsMeasured m bound (closed reading)
closed_measured m bound reading h =
    moved m bound reading (closed reading) refl
    (omega (arith, open_sum m.part reading.parts reading.going)) h

step_measured : (m : Measure) (bound : ℕ) (reading : Reading) (begun : Begun)
    → IsMeasured m bound reading → IsMeasured m bound (step_added reading begun)
step_measured m bound reading begun h =
    let steps : sum_by (of_text m.part) (reading.steps ++ step_text begun reading.parts ∷ [])
    ≡ sum_by (of_text m.part) reading.steps + sum_by m.part reading.parts =
    sum_by_push (of_text m.part) reading.steps (step_text begun reading.parts) in
    moved m bound reading (step_added reading begun) refl (omega (arith, steps)) h

ended_measured : (m : Measure) (bound : ℕ) (reading : Reading) (begun : Option Begun)
    → IsMeasured m bound reading → IsMeasured m bound (ended_by reading begun)
ended_measured m bound reading None h = h
ended_measured m bound reading (Some begun) h = step_measured m bound reading begun h

going_none : (m : Measure) (program : Program) → of_going m.part (going_after program) ≡ 0
going_none m Decks = refl
going_none m Utilities = m.commands

begun_measured : (m : Measure) (bound : ℕ) (reading : Reading) (number : ℕ) (name : List ℕ)
    (program : Program) → IsMeasured m bound reading
    → IsMeasured m bound (begun_at reading number name program)
begun_measured m bound reading number name program h =
    moved m bound reading (begun_at reading number name program) refl
    (omega (arith, going_none m program)) h

abbrev counted : Bool → ℕ
counted b = cond b 1 0

-- a number that none has is counted 0 times
none_counted : (p : ℕ → Bool) (xs : List ℕ) → list_any p xs ≡ false → count_by p xs ≡ 0
none_counted p [] none = refl
none_counted p (x ∷ xs) none =
    let first = cases_Bool (p x) in
    let cons = sum_by-cons (λ y. cond (p y) 1 0) x xs in
    elim first [
      | inl passes ↦
          absurd (both_ways (p x || list_any p xs) none (ap (λ b. b || list_any p xs) passes))
      | inr fails ↦
          let rest : list_any p xs ≡ false = sym (ap (λ b. b || list_any p xs) fails) ∙ none in
          let zero : counted (p x) ≡ 0 = ap counted fails in
          omega (arith, cons, zero, none_counted p xs rest)
    ]

-- a number more
count_more : (used : List ℕ) (deck number : ℕ)
    → count_by (is_number number) (used ++ deck ∷ [])
    ≡ count_by (is_number number) used + cond (deck == number) 1 0
count_more used deck number = sum_by_push (λ other. cond (other == number) 1 0) used deck

count_same : (used : List ℕ) (deck number : ℕ) → (deck == number) ≡ true
    → list_any (λ other. other == deck) used ≡ false → count_by (is_number number) used ≡ 0
count_same used deck number same none =
    let is : deck ≡ number = (Decides-eqb deck number).0 same in
    ap (λ n. count_by (is_number n) used) (sym is) ∙ none_counted (is_number deck) used none

more_once : (used : List ℕ) (deck number : ℕ) → list_any (λ other. other == deck) used ≡ false
    → count_by (is_number number) used ≤ 1
    → count_by (is_number number) (used ++ deck ∷ []) ≤ 1
more_once used deck number none once =
    elim (cases_Bool (deck == number)) [
      | inl same ↦
          let one : counted (deck == number) ≡ 1 = ap counted same in
          omega (arith, count_more used deck number, one, count_same used deck number same none)
      | inr other ↦
          let zero : counted (deck == number) ≡ 0 = ap counted other in
          omega (arith, count_more used deck number, zero, once)
    ]

more_within : (used : List ℕ) (deck number : ℕ) → (1 ≤ deck) × (deck ≤ 99)
    → (0 < count_by (is_number number) used → (1 ≤ number) × (number ≤ 99))
    → 0 < count_by (is_number number) (used ++ deck ∷ []) → (1 ≤ number) × (number ≤ 99)
more_within used deck number may within some =
    elim (cases_Bool (deck == number)) [
      | inl same ↦
          let is : deck ≡ number = (Decides-eqb deck number).0 same in
          subst (λ (n : ℕ). (1 ≤ n) × (n ≤ 99)) is may
      | inr other ↦
          let zero : counted (deck == number) ≡ 0 = ap counted other in
          within (omega (arith, count_more used deck number, zero, some))
    ]

more_used : (used : List ℕ) (deck : ℕ) → nat_le 64 (length used) ≡ false
    → may_number used deck ≡ true → AreUsed used → AreUsed (used ++ deck ∷ [])
more_used used deck few may h =
    let parts = and_parts _ _ may in
    let bounds = and_parts _ _ parts.0 in
    let unused : list_any (λ other. other == deck) used ≡ false = not-true _ parts.1 in
    record {
      few = omega (arith, leb-false 64 (length used) few, length-append used (deck ∷ []));
      once = λ number. more_once used deck number unused (h.once number);
      within = λ number. more_within used deck number
          (leb-true _ _ bounds.0, leb-true _ _ bounds.1) (h.within number);
    }

announced_measured : (m : Measure) (bound : ℕ) (reading : Reading) (deck : ℕ)
    → nat_le 64 (length reading.used) ≡ false → may_number reading.used deck ≡ true
    → IsMeasured m bound reading → IsMeasured m bound (announced reading deck)
announced_measured m bound reading deck few may h = record {
  sum = omega (arith, m.decks deck, h.sum, sum_by_push m.deck reading.used deck);
  used = more_used reading.used deck few may h.used;
}

number_measured : (m : Measure) (bound : ℕ) (reading : Reading) (line deck : ℕ)
    → IsMeasured m bound reading → IsMeasured m bound (with_number reading line deck)
number_measured m bound reading line deck h =
    chosen (IsMeasured m bound) (nat_le 64 (length reading.used)) _ _
    (λ many. faulted_measured m bound reading line (wrong TooManyDecks 3) h)
    (λ few. chosen (IsMeasured m bound) (may_number reading.used deck) _ _
    (λ may. announced_measured m bound reading deck few may h)
    (λ bad. faulted_measured m bound reading line (wrong DeckNumber 7) h))

deck_card_measured : (m : Measure) (bound : ℕ) (reading : Reading) (line : ℕ) (deck : Option ℕ)
    → IsMeasured m bound reading → IsMeasured m bound (with_deck_card reading line deck)
deck_card_measured m bound reading line None h =
    faulted_measured m bound reading line (wrong Misspelled 3) h
deck_card_measured m bound reading line (Some deck) h =
    number_measured m bound reading line deck h

opened_measured : (m : Measure) (bound : ℕ) (reading : Reading) (one : Part) → m.part one ≡ 0
    → IsMeasured m bound reading → IsMeasured m bound (opened reading one)
opened_measured m bound reading one none h =
    moved m bound reading (opened reading one) refl (omega (arith, none)) h

name_measured : (m : Measure) (bound : ℕ) (reading : Reading) (line : ℕ) (name : List ℕ)
    → IsMeasured m bound reading → IsMeasured m bound (with_data_name reading line name)
name_measured m bound reading line name h =
    chosen (IsMeasured m bound) (list_any (λ (part : Part). is_named name part.kind) reading.parts)
    _ _
    (λ twice. faulted_measured m bound reading line (wrong DataTwice 3) h)
    (λ new. opened_measured m bound reading (record { kind = Data name; lines = [] })
    (m.inputs name) h)

dd_measured : (m : Measure) (bound : ℕ) (reading : Reading) (line : ℕ) (name : List ℕ)
    → IsMeasured m bound reading → IsMeasured m bound (with_dd reading line name)
dd_measured m bound reading line name h =
    chosen (IsMeasured m bound) (bytes_eq name (codes "SYSIN")) _ _
    (λ sysin. opened_measured m bound reading (record { kind = Commands; lines = [] })
    m.commands h)
    (λ other. name_measured m bound reading line name h)

data_of_measured : (m : Measure) (bound : ℕ) (reading : Reading) (line : ℕ) (program : Program)
    (name : List ℕ) → IsMeasured m bound reading
    → IsMeasured m bound (with_data_of reading line program name)
data_of_measured m bound reading line Decks name h =
    deck_card_measured m bound reading line (deck_number name) h
data_of_measured m bound reading line Utilities name h =
    dd_measured m bound reading line name h

data_measured : (m : Measure) (bound : ℕ) (reading : Reading) (line : ℕ) (begun : Option Begun)
    (name : List ℕ) → IsMeasured m bound reading
    → IsMeasured m bound (with_data reading line begun name)
data_measured m bound reading line None name h =
    faulted_measured m bound reading line (wrong Misspelled 3) h
data_measured m bound reading line (Some begun) name h =
    data_of_measured m bound reading line begun.program name h

card_measured : (m : Measure) (bound : ℕ) (reading : Reading) (number : ℕ) (line : List ℕ)
    (card : Result Card CardFault) → IsMeasured m bound reading
    → IsMeasured m bound (with_card reading number line card)
card_measured m bound reading number line (Err fault) h =
    faulted_measured m bound reading number fault h
card_measured m bound reading number line (Ok Nothing) h = h
card_measured m bound reading number line (Ok (StepCard program)) h =
    begun_measured m bound (ended reading) number (name_on line) program
    (ended_measured m bound reading reading.begun h)
card_measured m bound reading number line (Ok DataCard) h =
    data_measured m bound reading number reading.begun (name_on line) h

more : (m : Measure) (bound : ℕ) (reading : Reading) → IsMeasured m bound reading
    → IsMeasured m (bound + m.line) reading
more m bound reading h = record { sum = omega (arith, h.sum); used = h.used }

added_measured : (m : Measure) (bound : ℕ) (reading : Reading) (number : ℕ) (text : List ℕ)
    (one : Part) → reading.going ≡ Some one → IsMeasured m bound reading
    → IsMeasured m (bound + m.line) (opened reading (line_added one number text))
added_measured m bound reading number text one is h = record {
  sum = omega (arith, m.added one number text, ap (of_going m.part) is, h.sum);
  used = h.used;
}

body_measured : (m : Measure) (bound : ℕ) (reading : Reading) (number : ℕ) (whole line : List ℕ)
    (going : Option Part) → reading.going ≡ going → IsMeasured m bound reading
    → IsMeasured m (bound + m.line) (with_body reading number whole line going)
body_measured m bound reading number whole line (Some one) is h =
    chosen (IsMeasured m (bound + m.line)) (is_long one.kind whole) _ _
    (λ long. faulted_measured m (bound + m.line) reading number (wrong LongData 81)
    (more m bound reading h))
    (λ short. added_measured m bound reading number (text_kept one.kind whole line) one is h)
body_measured m bound reading number whole line None is h =
    chosen (IsMeasured m (bound + m.line)) (length line == 0) _ _
    (λ none. more m bound reading h)
    (λ stray. faulted_measured m (bound + m.line) reading number
    (wrong StrayText (column_of line (unindented line))) (more m bound reading h))

text_measured : (m : Measure) (bound : ℕ) (reading : Reading) (number : ℕ) (whole line : List ℕ)
    → IsMeasured m bound reading
    → IsMeasured m (bound + m.line) (with_text reading number whole line)
text_measured m bound reading number whole line h =
    let end = more m bound (closed reading) (closed_measured m bound reading h) in
    chosen (IsMeasured m (bound + m.line)) (is_card line) _ _
    (λ card. card_measured m (bound + m.line) (closed reading) number line (card_of line) end)
    (λ other. chosen (IsMeasured m (bound + m.line)) (bytes_eq line (codes "/*")) _ _
    (λ slash. end)
    (λ body. body_measured m bound reading number whole line reading.going refl h))

line_measured : (m : Measure) (bound : ℕ) (reading : Reading) (number : ℕ) (line : List ℕ)
    (bad : Option ℕ) → IsMeasured m bound reading
    → IsMeasured m (bound + m.line) (unless_bad reading number line bad)
line_measured m bound reading number line (Some at) h =
    faulted_measured m (bound + m.line) reading number (wrong Character (at + 1))
    (more m bound reading h)
line_measured m bound reading number line None h =
    text_measured m bound reading number line (without_end line) h

next_measured : (m : Measure) (bound : ℕ) (reading : Reading) (number : ℕ) (line : List ℕ)
    (fault : Option TextFault) → IsMeasured m bound reading
    → IsMeasured m (bound + m.line) (with_next fault reading number line)
next_measured m bound reading number line (Some fault) h = more m bound reading h
next_measured m bound reading number line None h =
    line_measured m bound reading number line (first_bad line) h

-- what lines add at most
abbrev pub added_by : ℕ → List (List ℕ) → ℕ
added_by one [] = 0
added_by one (line ∷ lines) = one + added_by one lines

regrouped : (m : Measure) (one other : ℕ) (reading : Reading) → one ≡ other
    → IsMeasured m one reading → IsMeasured m other reading
regrouped m one other reading same h = subst (λ (n : ℕ). IsMeasured m n reading) same h

lines_measured : (m : Measure) (lines : List (List ℕ)) (bound number : ℕ) (reading : Reading)
    → IsMeasured m bound reading
    → IsMeasured m (bound + added_by m.line lines) (with_lines number reading lines)
lines_measured m [] bound number reading h =
    regrouped m bound (bound + 0) reading (omega arith) h
lines_measured m (line ∷ lines) bound number reading h =
    let next = with_next reading.fault reading number line in
    let read = lines_measured m lines (bound + m.line) (number + 1) next
    (next_measured m bound reading number line reading.fault h) in
    regrouped m (bound + m.line + added_by m.line lines)
    (bound + (m.line + added_by m.line lines)) (with_lines (number + 1) next lines) (omega arith)
    read

finished_measured : (m : Measure) (bound : ℕ) (reading : Reading) (fault : Option TextFault)
    → IsMeasured m bound reading → IsMeasured m bound (finished_by fault reading)
finished_measured m bound reading (Some fault) h = h
finished_measured m bound reading None h =
    ended_measured m bound (closed reading) reading.begun (closed_measured m bound reading h)

unread_measured : (m : Measure) → IsMeasured m 0 unread
unread_measured m = record {
  sum = omega arith;
  used = record {
    few = omega arith;
    once = λ number. omega arith;
    within = λ number some. absurd (omega (arith, some));
  };
}

-- the parts of a text come to no more than its cards and its lines
pub laid_measured : (m : Measure) (text : List ℕ)
    → IsMeasured m (added_by m.line (job_lines text)) (laid text)
laid_measured m text =
    let lines = job_lines text in
    let read = lines_measured m lines 0 1 unread (unread_measured m) in
    finished_measured m (added_by m.line lines) (with_lines 1 unread lines)
    (with_lines 1 unread lines).fault
    (regrouped m (0 + added_by m.line lines) (added_by m.line lines) (with_lines 1 unread lines)
    (omega arith) read)
