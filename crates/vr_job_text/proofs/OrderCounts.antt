-- A job has at most as many orders as its text has lines.
use Rattle.std.proofs.Common.{◌≡◌, ℕ, ◌+◌, ◌≤◌, Bool, true, false, cond, List, [], ◌∷◌, ◌++◌}
use Rattle.std.proofs.Common.{length, Option, Some, None, Result, Ok, Err, sum_by, refl, ap}
use Rattle.std.proofs.Common.{arith, length-append, ◌⊎◌, inl, inr}
use Rattle.std.proofs.lemmas.List.Sums.{sum_by-cons, sum_by-insert}
use Rattle.bstr.proofs.lemmas.LengthLemmas.{length-lines}
use Rattle.vr_text.specs.Lines.{Line}
use Rattle.vr_deck_text.specs.declared.fault.DeckCause.{DeckCause}
use Rattle.vr_deck_text.specs.declared.fault.LineFault.{LineFault}
use Rattle.vr_deck_text.specs.declared.row.Verb.{Verb}
use Rattle.vr_deck_text.specs.declared.row.Verb.TheVariants.{File, Commit, Backout, On}
use Rattle.vr_deck_text.specs.declared.text.Ask.{Ask}
use Rattle.vr_deck_text.specs.declared.text.Ask.TheVariants as asks
use Rattle.vr_deck_text.specs.declared.text.DeckFile.{DeckFile}
use Rattle.vr_deck_text.specs.declared.text.DeckText.{DeckText}
use Rattle.vr_deck_text.specs.declared.text.Order.{Order}
use Rattle.vr_deck_text.specs.Deck.{with_file, with_order, with_verb, with_named, with_line_words}
use Rattle.vr_deck_text.specs.Deck.{with_line as deck_line, with_lines as deck_lines, told_at}
use Rattle.vr_deck_text.specs.Deck.{is_long, is_comment, end_in, order_in, file_in, deck_of}
use Rattle.vr_deck_text.specs.Deck.{empty_deck}
use Rattle.vr_deck_text.specs.Rows.{verb_named}
use Rattle.vr_deck_text.specs.Words.{words}
use Rattle.vr_job_text.specs.declared.card.Program.{Program}
use Rattle.vr_job_text.specs.declared.card.Program.TheVariants as programs
use Rattle.vr_job_text.specs.declared.fault.TextFault.{TextFault}
use Rattle.vr_job_text.specs.declared.job.JobStep.{JobStep}
use Rattle.vr_job_text.specs.declared.job.JobStep.TheVariants.{Decks, Utilities}
use Rattle.vr_job_text.specs.declared.reading.Part.{Part}
use Rattle.vr_job_text.specs.declared.reading.PartKind.{PartKind}
use Rattle.vr_job_text.specs.declared.reading.PartKind.TheVariants as kinds
use Rattle.vr_job_text.specs.declared.reading.StepText.{StepText}
use Rattle.vr_job_text.specs.declared.text.Deck.{Deck}
use Rattle.vr_job_text.specs.declared.text.Step.{Step}
use Rattle.vr_job_text.specs.Decks.{deck_read, deck_in, with_deck, with_read, with_part, with_decks}
use Rattle.vr_job_text.specs.Decks.{place_of}
use Rattle.vr_job_text.specs.Job.{AreSteps, IsStepOf, deck_steps, order_count}
use Rattle.vr_job_text.specs.Layout.{laid}
use Rattle.vr_job_text.specs.Text.{job_lines}
use Rattle.vr_job_text.proofs.DeckNumbers.{read_after, unchanged}
use Rattle.vr_job_text.proofs.Measures.{Measure, laid_measured, added_by, of_text, total}

-- one of two values
pub pick : {A : Type 0} (b : Bool) (x y z : A) → cond b x y ≡ z → (x ≡ z) ⊎ (y ≡ z)
pick true x y z e = inl e
pick false x y z e = inr e

-- a line of a deck adds one order at most
same_orders : (deck next : DeckText) → deck ≡ next → length next.orders ≤ length deck.orders + 1
same_orders deck next same = omega (arith, ap (λ (one : DeckText). length one.orders) same)

by_file : (deck next : DeckText) (file : Result DeckFile DeckCause)
    → with_file deck file ≡ Ok next → length next.orders ≤ length deck.orders + 1
by_file deck next (Err cause) e = let f : ⊥ = cc in absurd f
by_file deck next (Ok file) e =
    let same : deck.orders ≡ next.orders = cc in omega (arith, ap (length {A = Order}) same)

by_order : (deck next : DeckText) (number : ℕ) (ask : Result Ask DeckCause)
    → with_order deck number ask ≡ Ok next → length next.orders ≤ length deck.orders + 1
by_order deck next number (Err cause) e = let f : ⊥ = cc in absurd f
by_order deck next number (Ok ask) e =
    let one : List Order = record { line = number; ask = ask } ∷ [] in
    let same : deck.orders ++ one ≡ next.orders = cc in
    omega (arith, ap (length {A = Order}) same, length-append deck.orders one)

by_verb : (deck next : DeckText) (number : ℕ) (verb : Verb) (rest : List (List ℕ))
    → with_verb deck number verb rest ≡ Ok next → length next.orders ≤ length deck.orders + 1
by_verb deck next number File rest e = by_file deck next (file_in deck.files rest) e
by_verb deck next number Commit rest e = by_order deck next number (end_in asks.Commit rest) e
by_verb deck next number Backout rest e = by_order deck next number (end_in asks.Backout rest) e
by_verb deck next number (On verb) rest e =
    by_order deck next number (order_in deck.files verb rest) e

by_named : (deck next : DeckText) (number : ℕ) (verb : Option Verb) (rest : List (List ℕ))
    → with_named deck number verb rest ≡ Ok next → length next.orders ≤ length deck.orders + 1
by_named deck next number None rest e = let f : ⊥ = cc in absurd f
by_named deck next number (Some verb) rest e = by_verb deck next number verb rest e

by_words : (deck next : DeckText) (number : ℕ) (all : List (List ℕ))
    → with_line_words deck number all ≡ Ok next → length next.orders ≤ length deck.orders + 1
by_words deck next number [] e = let same : deck ≡ next = cc in same_orders deck next same
by_words deck next number (word ∷ rest) e = by_named deck next number (verb_named word) rest e

one_order : (deck next : DeckText) (number : ℕ) (text : List ℕ)
    → deck_line deck number text ≡ Ok next → length next.orders ≤ length deck.orders + 1
one_order deck next number text e =
    elim (pick (is_long text) _ _ _ e) [
      | inl long ↦ let f : ⊥ = cc in absurd f
      | inr short ↦
          elim (pick (is_comment text) _ _ _ short) [
            | inl comment ↦ let same : deck ≡ next = cc in same_orders deck next same
            | inr other ↦ by_words deck next number (words text) other
          ]
    ]

-- so that a deck has at most as many orders as lines
told_ok : (number : ℕ) (after : Result DeckText DeckCause) (next : DeckText)
    → told_at number after ≡ Ok next → after ≡ Ok next
told_ok number (Err cause) next e = let f : ⊥ = cc in absurd f
told_ok number (Ok deck) next e = let same : deck ≡ next = cc in ap Ok same

deck_after : (after : Result DeckText LineFault) (lines : List Line) (to : DeckText)
    → deck_lines after lines ≡ Ok to
    → (next : DeckText) × (after ≡ Ok next) × (deck_lines (Ok next) lines ≡ Ok to)
deck_after (Err fault) lines to e = let f : ⊥ = cc in absurd f
deck_after (Ok next) lines to e = (next, refl, e)

few_in_lines : (lines : List Line) (from to : DeckText) → deck_lines (Ok from) lines ≡ Ok to
    → length to.orders ≤ length from.orders + length lines
few_in_lines [] from to e =
    let same : from ≡ to = cc in
    omega (arith, ap (λ (one : DeckText). length one.orders) same)
few_in_lines (line ∷ lines) from to e =
    let after = deck_after (told_at line.number (deck_line from line.number line.text)) lines to e in
    let one =
    one_order from after.0 line.number line.text (told_ok line.number _ after.0 after.1) in
    omega (arith, one, few_in_lines lines after.0 to after.2)

-- the deck that is read is that of the lines
read_is : (read : Result DeckText LineFault) (deck : DeckText) → deck_read read ≡ Ok deck
    → read ≡ Ok deck
read_is (Err fault) deck e = let f : ⊥ = cc in absurd f
read_is (Ok read) deck e = cc

few_in_deck : (lines : List Line) (deck : DeckText) → deck_in lines ≡ Ok deck
    → length deck.orders ≤ length lines
few_in_deck lines deck e =
    omega (arith, few_in_lines lines empty_deck deck (read_is (deck_of lines) deck e))

-- the orders of the decks of a step, and the lines of parts
abbrev orders_in : Deck → ℕ
orders_in deck = length deck.text.orders

abbrev orders_of : Step → ℕ
orders_of step = sum_by orders_in step.decks

abbrev lines_in : Part → ℕ
lines_in part = length part.lines

lines_measure : Measure
lines_measure = record {
  part = lines_in;
  deck = λ n. 0;
  line = 1;
  commands = refl;
  inputs = λ name. refl;
  decks = λ number. refl;
  added = λ one number text. omega (
    arith,
    length-append one.lines (record { number = number; text = text } ∷ []),
  );
}

all_added : (lines : List (List ℕ)) → added_by 1 lines ≡ length lines
all_added [] = refl
all_added (line ∷ lines) = omega (arith, all_added lines)

zeros : (used : List ℕ) → sum_by (λ n. 0) used ≡ 0
zeros [] = refl
zeros (n ∷ used) = omega (arith, sum_by-cons (λ m. 0) n used, zeros used)

lines_below : (text : List ℕ)
    → sum_by (of_text lines_in) (laid text).steps ≤ length (job_lines text)
unfolding lines_measure
lines_below text =
    let h = laid_measured lines_measure text in
    let low : total lines_in (laid text)
    ≤ sum_by (λ n. 0) (laid text).used + added_by 1 (job_lines text) = h.sum in
    omega (arith, low, all_added (job_lines text), zeros (laid text).used)

one_deck : (decks next : List Deck) (number : ℕ) (lines : List Line)
    (read : Result DeckText TextFault) → deck_in lines ≡ read → with_read decks number read ≡ Ok next
    → sum_by orders_in next ≤ sum_by orders_in decks + length lines
one_deck decks next number lines (Err fault) is e = let f : ⊥ = cc in absurd f
one_deck decks next number lines (Ok text) is e =
    let deck : Deck = record { number = number; text = text } in
    let same : with_deck decks deck ≡ next = cc in
    let few : length text.orders ≤ length lines = few_in_deck lines text is in
    let sums : sum_by orders_in (with_deck decks deck)
    ≡ sum_by orders_in decks + length text.orders =
    sum_by-insert orders_in decks (place_of decks number) deck in
    omega (arith, ap (sum_by orders_in) same, sums, few)

no_deck : (decks next : List Deck) (lines : List Line) → unchanged decks ≡ Ok next
    → sum_by orders_in next ≤ sum_by orders_in decks + length lines
no_deck decks next lines e =
    let same : decks ≡ next = cc in omega (arith, ap (sum_by orders_in) same)

one_part : (decks next : List Deck) (lines : List Line) (kind : PartKind)
    → with_part decks lines kind ≡ Ok next
    → sum_by orders_in next ≤ sum_by orders_in decks + length lines
one_part decks next lines (kinds.Deck number) e =
    one_deck decks next number lines (deck_in lines) refl e
one_part decks next lines kinds.Commands e = no_deck decks next lines e
one_part decks next lines (kinds.Data name) e = no_deck decks next lines e

few_in_decks : (parts : List Part) (from to : List Deck) → with_decks (Ok from) parts ≡ Ok to
    → sum_by orders_in to ≤ sum_by orders_in from + sum_by lines_in parts
few_in_decks [] from to e =
    let same : from ≡ to = cc in omega (arith, ap (sum_by orders_in) same)
few_in_decks (part ∷ parts) from to e =
    let after = read_after (with_part from part.lines part.kind) parts to e in
    let one = one_part from after.0 part.lines part.kind after.1 in
    omega (arith, one, few_in_decks parts after.0 to after.2, sum_by-cons lines_in part parts)

-- the orders of the steps of texts are at most the lines of these
first_orders : (program : Program) (text : StepText) (step : JobStep) (steps : List JobStep)
    → IsStepOf program text step
    → sum_by orders_of (deck_steps (step ∷ steps))
    ≤ sum_by lines_in text.parts + sum_by orders_of (deck_steps steps)
first_orders programs.Decks text (Decks step) steps is =
    omega (
      arith,
      few_in_decks text.parts [] step.decks is.decks,
      sum_by-cons orders_of step (deck_steps steps),
    )
first_orders programs.Utilities text (Utilities step) steps is = omega arith
first_orders programs.Decks text (Utilities step) steps is = absurd is
first_orders programs.Utilities text (Decks step) steps is = absurd is

steps_orders : (texts : List StepText) (steps : List JobStep) → AreSteps texts steps
    → sum_by orders_of (deck_steps steps) ≤ sum_by (of_text lines_in) texts
steps_orders [] [] all = omega arith
steps_orders [] (step ∷ steps) all = absurd all
steps_orders (text ∷ texts) [] all = absurd all
steps_orders (text ∷ texts) (step ∷ steps) all =
    omega (
      arith,
      first_orders text.program text step steps all.0,
      steps_orders texts steps all.1,
      sum_by-cons (of_text lines_in) text texts,
    )

-- a job has at most as many orders as its text has lines
pub few_orders : (text : List ℕ) (steps : List JobStep) → AreSteps (laid text).steps steps
    → order_count (deck_steps steps) ≤ length text
few_orders text steps all =
    let low = steps_orders (laid text).steps steps all in
    omega (arith, low, lines_below text, length-lines text)
