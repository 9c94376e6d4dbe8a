-- The numbers of the decks of a job are those that its cards announced.
use Rattle.std.proofs.Common.{◌≡◌, ℕ, suc, ◌+◌, ◌<◌, ◌≤◌, ◌==◌, nat_lt, Bool, true, false, cond}
use Rattle.std.proofs.Common.{List, [], ◌∷◌, length, Result, Ok, Err, sum_by}
use Rattle.std.proofs.Common.{refl, sym, ap, subst, ◌∙◌, arith, insert}
use Rattle.std.specs.List.{AllByRecursion}
use Rattle.std.proofs.lemmas.Bool.{ltb-true, ltb-false}
use Rattle.std.proofs.lemmas.List.Elements.{All-from_recursion}
use Rattle.std.proofs.lemmas.List.Sums.{sum_by-cons, sum_by-insert}
use Rattle.vr_text.specs.Lines.{Line}
use Rattle.vr_deck_text.specs.declared.text.DeckText.{DeckText}
use Rattle.vr_job_text.specs.declared.card.Program.{Program}
use Rattle.vr_job_text.specs.declared.card.Program.TheVariants as programs
use Rattle.vr_job_text.specs.declared.fault.TextFault.{TextFault}
use Rattle.vr_job_text.specs.declared.job.JobStep.{JobStep}
use Rattle.vr_job_text.specs.declared.job.JobStep.TheVariants.{Decks, Utilities}
use Rattle.vr_job_text.specs.declared.reading.Part.{Part}
use Rattle.vr_job_text.specs.declared.reading.PartKind.{PartKind}
use Rattle.vr_job_text.specs.declared.reading.PartKind.TheVariants as kinds
use Rattle.vr_job_text.specs.declared.reading.StepText.{StepText}
use Rattle.vr_job_text.specs.declared.text.Deck.{Deck}
use Rattle.vr_job_text.specs.declared.text.Step.{Step}
use Rattle.vr_job_text.specs.Decks.{deck_in, with_deck, with_read, with_part, with_decks}
use Rattle.vr_job_text.specs.Decks.{place_of}
use Rattle.vr_job_text.specs.Job.{AreSteps, IsStepOf, deck_steps}
use Rattle.vr_job_text.specs.Layout.{laid}
use Rattle.vr_job_text.specs.Numbers.{AreNumbered, RiseFrom, deck_count}
use Rattle.vr_job_text.specs.Text.{job_lines}
use Rattle.vr_job_text.proofs.Measures.{Measure, laid_measured, added_by}
use Rattle.vr_job_text.proofs.Measures.{of_text, total}

-- the sum of a function of the numbers: of the decks of a step, and of parts
abbrev of_deck : (ℕ → ℕ) → Deck → ℕ
of_deck f deck = f deck.number

abbrev of_step : (ℕ → ℕ) → Step → ℕ
of_step f step = sum_by (of_deck f) step.decks

abbrev of_kind : (ℕ → ℕ) → PartKind → ℕ
of_kind f (kinds.Deck number) = f number
of_kind f kinds.Commands = 0
of_kind f (kinds.Data name) = 0

abbrev of_part : (ℕ → ℕ) → Part → ℕ
of_part f part = of_kind f part.kind

numbers_measure : (ℕ → ℕ) → Measure
numbers_measure f = record {
  part = of_part f;
  deck = f;
  line = 0;
  commands = refl;
  inputs = λ name. refl;
  decks = λ number. refl;
  added = λ one number text. omega arith;
}

none_added : (lines : List (List ℕ)) → added_by 0 lines ≡ 0
none_added [] = refl
none_added (line ∷ lines) = omega (arith, none_added lines)

parts_below : (f : ℕ → ℕ) (text : List ℕ)
    → sum_by (of_text (of_part f)) (laid text).steps ≤ sum_by f (laid text).used
unfolding numbers_measure
parts_below f text =
    let h = laid_measured (numbers_measure f) text in
    let low : total (of_part f) (laid text)
    ≤ sum_by f (laid text).used + added_by 0 (job_lines text) = h.sum in
    omega (arith, low, none_added (job_lines text))

-- the decks of a step are in the order of their numbers
abbrev IsRising : Step → Type 0
IsRising step = RiseFrom 0 step.decks

-- a deck that is put among others, each above a number
put_first : (low : ℕ) (deck one : Deck) (decks : List Deck) (lower : Bool)
    → nat_lt one.number deck.number ≡ lower → low ≤ deck.number → low ≤ one.number
    → RiseFrom one.number decks
    → (one.number ≤ deck.number → RiseFrom one.number (with_deck decks deck))
    → RiseFrom low (insert (one ∷ decks) (cond lower (1 + place_of decks deck.number) 0) deck)
put_first low deck one decks true is h first rest later =
    let below : one.number < deck.number = ltb-true _ _ is in
    let next : 1 + place_of decks deck.number ≡ suc (place_of decks deck.number) = omega arith in
    subst (λ (k : ℕ). RiseFrom low (insert (one ∷ decks) k deck)) (sym next)
    (first, later (omega (arith, below)))
put_first low deck one decks false is h first rest later =
    let above : deck.number ≤ one.number = ltb-false _ _ is in (h, (above, rest))

put_rises : (low : ℕ) (deck : Deck) (decks : List Deck) → low ≤ deck.number → RiseFrom low decks
    → RiseFrom low (with_deck decks deck)
put_rises low deck [] h all = (h, tt)
put_rises low deck (one ∷ decks) h all =
    put_first low deck one decks (nat_lt one.number deck.number) refl h all.0 all.1
    (λ above. put_rises one.number deck decks above all.1)

-- decks that are read keep their numbers
read_sum : (f : ℕ → ℕ) (decks next : List Deck) (number : ℕ) (read : Result DeckText TextFault)
    → with_read decks number read ≡ Ok next
    → sum_by (of_deck f) next ≡ sum_by (of_deck f) decks + f number
read_sum f decks next number (Err fault) e = let no : ⊥ = cc in absurd no
read_sum f decks next number (Ok text) e =
    let deck : Deck = record { number = number; text = text } in
    let same : with_deck decks deck ≡ next = cc in
    sym (ap (sum_by (of_deck f)) same)
    ∙ sum_by-insert (of_deck f) decks (place_of decks number) deck

-- no deck more
abbrev pub unchanged : List Deck → Result (List Deck) TextFault
unchanged decks = Ok decks

same_sum : (f : ℕ → ℕ) (decks next : List Deck) → unchanged decks ≡ Ok next
    → sum_by (of_deck f) next ≡ sum_by (of_deck f) decks + 0
same_sum f decks next e =
    let same : decks ≡ next = cc in omega (arith, ap (sum_by (of_deck f)) same)

part_sum : (f : ℕ → ℕ) (decks next : List Deck) (lines : List Line) (kind : PartKind)
    → with_part decks lines kind ≡ Ok next
    → sum_by (of_deck f) next ≡ sum_by (of_deck f) decks + of_kind f kind
part_sum f decks next lines (kinds.Deck number) e =
    read_sum f decks next number (deck_in lines) e
part_sum f decks next lines kinds.Commands e = same_sum f decks next e
part_sum f decks next lines (kinds.Data name) e = same_sum f decks next e

pub read_after : (after : Result (List Deck) TextFault) (parts : List Part) (to : List Deck)
    → with_decks after parts ≡ Ok to
    → (next : List Deck) × (after ≡ Ok next) × (with_decks (Ok next) parts ≡ Ok to)
read_after (Err fault) parts to e = let f : ⊥ = cc in absurd f
read_after (Ok next) parts to e = (next, refl, e)

decks_sum : (f : ℕ → ℕ) (parts : List Part) (from to : List Deck)
    → with_decks (Ok from) parts ≡ Ok to
    → sum_by (of_deck f) to ≡ sum_by (of_deck f) from + sum_by (of_part f) parts
decks_sum f [] from to e =
    let same : from ≡ to = cc in omega (arith, ap (sum_by (of_deck f)) same)
decks_sum f (part ∷ parts) from to e =
    let after = read_after (with_part from part.lines part.kind) parts to e in
    let one = part_sum f from after.0 part.lines part.kind after.1 in
    omega (arith, one, decks_sum f parts after.0 to after.2, sum_by-cons (of_part f) part parts)

read_rises : (decks next : List Deck) (number : ℕ) (read : Result DeckText TextFault)
    → with_read decks number read ≡ Ok next → RiseFrom 0 decks → RiseFrom 0 next
read_rises decks next number (Err fault) e h = let no : ⊥ = cc in absurd no
read_rises decks next number (Ok text) e h =
    let deck : Deck = record { number = number; text = text } in
    let same : with_deck decks deck ≡ next = cc in
    subst (RiseFrom 0) same (put_rises 0 deck decks (omega arith) h)

same_rises : (decks next : List Deck) → unchanged decks ≡ Ok next → RiseFrom 0 decks
    → RiseFrom 0 next
same_rises decks next e h = let same : decks ≡ next = cc in subst (RiseFrom 0) same h

part_rises : (decks next : List Deck) (lines : List Line) (kind : PartKind)
    → with_part decks lines kind ≡ Ok next → RiseFrom 0 decks → RiseFrom 0 next
part_rises decks next lines (kinds.Deck number) e h =
    read_rises decks next number (deck_in lines) e h
part_rises decks next lines kinds.Commands e h = same_rises decks next e h
part_rises decks next lines (kinds.Data name) e h = same_rises decks next e h

decks_rise : (parts : List Part) (from to : List Deck) → with_decks (Ok from) parts ≡ Ok to
    → RiseFrom 0 from → RiseFrom 0 to
decks_rise [] from to e h = let same : from ≡ to = cc in subst (RiseFrom 0) same h
decks_rise (part ∷ parts) from to e h =
    let after = read_after (with_part from part.lines part.kind) parts to e in
    decks_rise parts after.0 to after.2
    (part_rises from after.0 part.lines part.kind after.1 h)

-- the decks of the steps of texts are among the parts of these
first_sum : (f : ℕ → ℕ) (program : Program) (text : StepText) (step : JobStep)
    (steps : List JobStep) → IsStepOf program text step
    → sum_by (of_step f) (deck_steps (step ∷ steps))
    ≤ sum_by (of_part f) text.parts + sum_by (of_step f) (deck_steps steps)
first_sum f programs.Decks text (Decks step) steps is =
    omega (
      arith,
      decks_sum f text.parts [] step.decks is.decks,
      sum_by-cons (of_step f) step (deck_steps steps),
    )
first_sum f programs.Utilities text (Utilities step) steps is = omega arith
first_sum f programs.Decks text (Utilities step) steps is = absurd is
first_sum f programs.Utilities text (Decks step) steps is = absurd is

steps_sum : (f : ℕ → ℕ) (texts : List StepText) (steps : List JobStep) → AreSteps texts steps
    → sum_by (of_step f) (deck_steps steps) ≤ sum_by (of_text (of_part f)) texts
steps_sum f [] [] all = omega arith
steps_sum f [] (step ∷ steps) all = absurd all
steps_sum f (text ∷ texts) [] all = absurd all
steps_sum f (text ∷ texts) (step ∷ steps) all =
    omega (
      arith,
      first_sum f text.program text step steps all.0,
      steps_sum f texts steps all.1,
      sum_by-cons (of_text (of_part f)) text texts,
    )

first_rises : (program : Program) (text : StepText) (step : JobStep) (steps : List JobStep)
    → IsStepOf program text step → AllByRecursion IsRising (deck_steps steps)
    → AllByRecursion IsRising (deck_steps (step ∷ steps))
first_rises programs.Decks text (Decks step) steps is all =
    (decks_rise text.parts [] step.decks is.decks tt, all)
first_rises programs.Utilities text (Utilities step) steps is all = all
first_rises programs.Decks text (Utilities step) steps is all = absurd is
first_rises programs.Utilities text (Decks step) steps is all = absurd is

steps_rise : (texts : List StepText) (steps : List JobStep) → AreSteps texts steps
    → AllByRecursion IsRising (deck_steps steps)
steps_rise [] [] all = tt
steps_rise [] (step ∷ steps) all = absurd all
steps_rise (text ∷ texts) [] all = absurd all
steps_rise (text ∷ texts) (step ∷ steps) all =
    first_rises text.program text step steps all.0 (steps_rise texts steps all.1)

ones : {X : Type 0} (xs : List X) → sum_by (λ x. 1) xs ≡ length xs
ones [] = refl
ones (x ∷ xs) = omega (arith, sum_by-cons (λ y. 1) x xs, ones xs)

all_ones : (steps : List Step) → sum_by (of_step (λ n. 1)) steps ≡ deck_count steps
all_ones [] = refl
all_ones (step ∷ steps) =
    omega (
      arith,
      sum_by-cons (of_step (λ n. 1)) step steps,
      sum_by-cons (λ (one : Step). length one.decks) step steps,
      ones step.decks,
      all_ones steps,
    )

steps_below : (f : ℕ → ℕ) (text : List ℕ) (steps : List JobStep) → AreSteps (laid text).steps steps
    → sum_by (of_step f) (deck_steps steps) ≤ sum_by f (laid text).used
steps_below f text steps all =
    omega (arith, steps_sum f (laid text).steps steps all, parts_below f text)

-- the decks of a job are numbered 1 to 99, each once
pub numbered : (text : List ℕ) (steps : List JobStep) → AreSteps (laid text).steps steps
    → AreNumbered (deck_steps steps)
numbered text steps all =
    let used = (laid_measured (numbers_measure (λ n. 0)) text).used in
    record {
      few = omega (
        arith,
        used.few,
        steps_below (λ n. 1) text steps all,
        all_ones (deck_steps steps),
        ones (laid text).used,
      );
      once = λ number. omega (
        arith,
        used.once number,
        steps_below (λ n. cond (n == number) 1 0) text steps all,
      );
      within = λ number some. used.within number
          (omega (arith, some, steps_below (λ n. cond (n == number) 1 0) text steps all));
      rise = All-from_recursion IsRising (deck_steps steps)
          (steps_rise (laid text).steps steps all);
    }
