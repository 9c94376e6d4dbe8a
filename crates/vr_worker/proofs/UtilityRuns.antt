-- What the commands of a step of IDCAMS leave of the volumes.
use Rattle.std.proofs.Common.{◌≡◌, ◌∙◌, ◌<◌, ◌==◌, ℕ, List, [], ◌++◌, All, IfOk, Result, Ok, Err}
use Rattle.std.proofs.Common.{ap, arith, false, get_or, inl, inr, length, map, refl, subst, sym}
use Rattle.std.proofs.Math.Path.{fun_ext}
use Rattle.std.proofs.lemmas.Bool.{cases_Bool}
use Rattle.std.proofs.lemmas.Bool.Decides.{Decides-eqb}
use Rattle.std.proofs.lemmas.List.{append-nil}
use Rattle.std.proofs.lemmas.List.Elements.{filter-append}
use Rattle.vr_ams_define.specs.Grown.{AreRunOn, IsRunOn}
use Rattle.vr_ams_run.specs.Running.{lines_of}
use Rattle.vr_history.specs.Merged.{IsStamped, merged, part_of_deck}
use Rattle.vr_history.specs.declared.entry.Entry.{Entry}
use Rattle.vr_job_text.specs.declared.job.JobStep.TheVariants.{Utilities}
use Rattle.vr_job_text.specs.declared.job.UtilityStep.{UtilityStep}
use Rattle.vr_trace.proofs.CallerLemmas.{requests_of_deck}
use Rattle.vr_trace.specs.Laws.{AreRising, deck_entries, of_deck}
use Rattle.vr_trace.specs.Shown.{Shown}
use Rattle.vr_trace.specs.declared.no.RunNo.{RunNo}
use Rattle.vr_worker.specs.Decks.{ArePlaced}
use Rattle.vr_worker.specs.OneStep.{AreSinceStep, HasRunStep, IsSinceStep}
use Rattle.vr_worker.specs.Runs.{HasAskedMore, StayRising}
use Rattle.vr_worker.proofs.Grown.{ok-always, same-entries}
use Rattle.vr_worker.proofs.Laters.{none-above}
use Rattle.vr_worker.proofs.Merging.{went-on}
use Rattle.vr_worker.proofs.Numbering.{none-of-utilities}

-- what is so of a value is so where it is passed on
pub ran-as : {X : Type 0} (P : X → Type 0) (end given : Result X RunNo)
    → IfOk given (λ (value : X). end ≡ Ok value) → IfOk end P → IfOk given P
ran-as {X} P end (Ok value) passed has =
    subst (λ (it : Result X RunNo). IfOk it P) passed has
ran-as P end (Err fault) passed has = tt

-- ---- the decks

module _ {V : Type 0} (entries : V → List Entry) (follows : V → V → Type 0) (step : UtilityStep)
    (old new : List V) (since : AreSinceStep entries follows (Utilities step) old new) where
  -- a deck has the entries that it had
  same-deck : (deck : ℕ) → (deck == 0) ≡ false
      → of_deck deck (merged (map entries new)) ≡ of_deck deck (merged (map entries old))
  same-deck deck other = same-entries entries deck old new since.count (λ place volume near.
      let it : IsSinceStep entries follows (Utilities step) (get_or old place volume)
      (get_or new place volume) = since.each place volume near in
      ap (deck_entries deck) it.grew
      ∙ filter-append (λ (entry : Entry). entry.unit.deck == deck)
      (entries (get_or old place volume)) it.more
      ∙ ap (λ (them : List Entry). deck_entries deck (entries (get_or old place volume)) ++ them)
      (none-of-utilities (lines_of step.commands) deck it.more other it.own)
      ∙ append-nil (deck_entries deck (entries (get_or old place volume))))

  -- so it asked nothing more
  asked-nothing : (end : Result (Unit {0}) RunNo) (deck : ℕ) → (deck == 0) ≡ false
      → HasAskedMore end [] (part_of_deck deck (merged (map entries old)))
      (part_of_deck deck (merged (map entries new)))
  asked-nothing end deck other = record {
    first = [];
    asked = requests_of_deck deck (merged (map entries new))
        ∙ ap (part_of_deck deck) (same-deck deck other)
        ∙ sym (requests_of_deck deck (merged (map entries old)))
        ∙ sym (append-nil (part_of_deck deck (merged (map entries old))));
    prefix = ([], refl);
    whole = ok-always end ([] ≡ []) refl;
  }

  -- and the stamps of its entries rise as they did
  stay-by : (AreRising (of_deck 0 (merged (map entries old)))
      → AreRising (of_deck 0 (merged (map entries new))))
      → StayRising (map entries old) (map entries new)
  stay-by utilities deck rose = elim (cases_Bool (deck == 0)) [
    | inl none ↦
        let is : deck ≡ 0 = (Decides-eqb deck 0).0 none in
        subst (λ (d : ℕ). AreRising (of_deck d (merged (map entries new)))) (sym is)
        (utilities (subst (λ (d : ℕ). AreRising (of_deck d (merged (map entries old)))) is rose))
    | inr other ↦ subst AreRising (sym (same-deck deck other)) rose
  ]

-- ---- by what the commands say of the volumes

module _ {V : Type 0} (number : V → ℕ) (shown : V → Shown) (entries history : V → List Entry)
    (follows goes : V → V → Type 0) (same : (volume : V) → history volume ≡ entries volume)
    (goes_follows : (a b : V) → goes a b → follows a b)
    (goes_number : (a b : V) → goes a b → number b ≡ number a) (step : UtilityStep)
    (old new : List V) (run : AreRunOn history goes (lines_of step.commands) old new) where
  pub still-placed : ArePlaced number old → ArePlaced number new
  still-placed placed place volume near =
      let inside : place < length old = omega (arith, run.count, near) in
      goes_number (get_or old place volume) (get_or new place volume)
      (run.each place volume inside).is_later ∙ placed place volume inside

  by-entries : AreRunOn entries goes (lines_of step.commands) old new
  by-entries = subst (λ (one : V → List Entry).
      AreRunOn one goes (lines_of step.commands) old new) (fun_ext same) run

  since-run : AreSinceStep entries follows (Utilities step) old new
  since-run = record {
    count = run.count;
    each = λ place volume near.
        let it : IsRunOn entries goes (lines_of step.commands) (get_or old place volume)
        (get_or new place volume) = by-entries.each place volume near in
        record {
          is_later = goes_follows (get_or old place volume) (get_or new place volume) it.is_later;
          more = it.made;
          grew = it.grew;
          own = it.own;
        };
  }

  -- as the stamps of each history rise
  pub utilities-left : All (λ (volume : V). IsStamped 0 (entries volume)) old
      → (end : Result (Unit {0}) RunNo)
      → HasRunStep shown entries follows (Utilities step) end old new
  utilities-left stamped end = record {
    since = since-run;
    later = went-on entries follows (Utilities step) old new since-run
        (record { had = none-above entries old stamped; gains = by-entries.above });
    next = by-entries.next;
    asked = asked-nothing entries follows step old new since-run end;
    rising = stay-by entries follows step old new since-run
        (λ rose. (by-entries.rising (record { each = stamped; utilities = rose })).utilities);
  }
