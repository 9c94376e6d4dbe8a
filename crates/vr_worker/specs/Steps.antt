-- What the steps of a job leave of the volumes, and what their decks asked. The rules are this
-- project's own.
use Rattle.std.specs.Prelude.{◌≡◌, ◌⊎◌, ◌<◌, ◌==◌, ℕ, List, [], ◌∷◌, ◌++◌, All, Contains, false}
use Rattle.std.specs.Prelude.{OnOk, Result, drop, get_or, length, map, take}
use Rattle.vr_ams_define.specs.Grown.{IsOfUtilities}
use Rattle.vr_ams_run.specs.Running.{lines_of}
use Rattle.vr_types.specs.declared.bound.Bound.{Bound}
use Rattle.vr_catalog.specs.declared.entry.CatEntry.{CatEntry}
use Rattle.vr_history.specs.Merged.{Numbered, merged, part_of_deck}
use Rattle.vr_history.specs.declared.entry.Entry.{Entry}
use Rattle.vr_job_text.specs.declared.job.JobStep.{JobStep}
use Rattle.vr_job_text.specs.declared.job.JobStep.TheVariants.{Decks, Utilities}
use Rattle.vr_job_text.specs.declared.text.Deck.{Deck}
use Rattle.vr_job_text.specs.declared.text.Step.{Step}
use Rattle.vr_trace.specs.Growing.{IsEntered, IsNext}
use Rattle.vr_trace.specs.Laws.{AreRising, entry_of, of_deck}
use Rattle.vr_worker.specs.Asks.{IsPrefixOf, steps_ask}

-- the numbers of the decks of a step
abbrev pub numbers_in : Step → List ℕ
numbers_in step = map (λ (deck : Deck). deck.number) step.decks

-- an entry is of one of the decks of a step, or of the utilities on the line of one of its commands
abbrev pub IsOfStep : JobStep → Entry → Type 0
IsOfStep (Decks step) entry = Contains (numbers_in step) entry.unit.deck
IsOfStep (Utilities step) entry = IsOfUtilities (lines_of step.commands) entry

-- The entries are those of these steps, one step after another.
abbrev pub AreOfSteps : List JobStep → List Entry → Type 0
AreOfSteps [] entries = entries ≡ []
AreOfSteps (step ∷ steps) entries = (first : List Entry) × (rest : List Entry)
    × (entries ≡ first ++ rest) × All (IsOfStep step) first × AreOfSteps steps rest

-- The volume is a later state of this one, and its history is that of these steps.
pub record IsSinceSteps {V : Type 0} (entries : V → List Entry) (follows : V → V → Type 0)
    (steps : List JobStep) (first now : V) : Type 0 where
  pub is_later : follows first now
  pub of_steps : AreOfSteps steps (entries now)

-- so is each volume since the one at its place
pub record AreSinceSteps {V : Type 0} (entries : V → List Entry) (follows : V → V → Type 0)
    (steps : List JobStep) (old new : List V) : Type 0 where
  pub count : length new ≡ length old
  pub each : (place : ℕ) (volume : V) → place < length old
      → IsSinceSteps entries follows steps (get_or old place volume) (get_or new place volume)

-- The decks of the first of the steps asked all that they request, each step by the catalogs of its
-- number, each request once and in order; those of the next step, if there is one, each the first
-- of what it requests; and no other deck asked anything. All steps are such where the job came
-- through. Along each deck, that of the utilities too, over all volumes, the stamps of its entries
-- rise.
pub record HasAsked {E : Type 0} (catalogs : ℕ → List (List CatEntry)) (steps : List JobStep)
    (result : Result (Unit {0}) E) (histories : List (List Entry)) : Type 0 where
  pub count : ℕ
  pub next : ℕ → List Bound
  pub asked : (deck : ℕ) → (deck == 0) ≡ false → part_of_deck deck (merged histories)
      ≡ steps_ask catalogs 0 (take count steps) deck ++ next deck
  pub prefixes : (deck : ℕ) → (deck == 0) ≡ false
      → IsPrefixOf (next deck) (steps_ask catalogs count (take 1 (drop count steps)) deck)
  pub whole : OnOk result (take count steps ≡ steps)
  pub rising : (deck : ℕ) → AreRising (of_deck deck (merged histories))

-- Over all volumes the steps come one after another: in the merged history no entry of one comes
-- before an entry of a step before it.
abbrev pub ComeInSteps : List JobStep → List (List Entry) → Type 0
ComeInSteps steps histories = AreOfSteps steps (map entry_of (merged histories))

-- an entry is of one of these steps
abbrev pub IsOfOneStep : List JobStep → Entry → Type 0
IsOfOneStep steps entry = (step : JobStep) × Contains steps step × IsOfStep step entry

-- the first entry is of a step before that of the second
abbrev pub IsOfEarlier : List JobStep → Entry → Entry → Type 0
IsOfEarlier steps other entry = (before : List JobStep) × (after : List JobStep)
    × (steps ≡ before ++ after) × IsOfOneStep before other × IsOfOneStep after entry

-- The first entry has the stamp before that of the second, and is of the same volume, of the same
-- deck, or of an earlier step.
pub record ComesBefore (steps : List JobStep) (other this : Numbered) : Type 0 where
  pub next : IsNext other.entry.stamp this.entry
  pub of : (other.volume ≡ this.volume) ⊎ ((other.entry.unit.deck ≡ this.entry.unit.deck)
      ⊎ IsOfEarlier steps other.entry this.entry)

-- No stamp is left out: that of each entry of the histories is 1, or there is an entry with the
-- stamp before it, of its volume, of its deck, or of an earlier step.
abbrev pub AreGapless : List JobStep → List (List Entry) → Type 0
AreGapless steps histories = (this : Numbered) → IsEntered histories this
    → IsNext 0 this.entry
    ⊎ ((other : Numbered) × IsEntered histories other × ComesBefore steps other this)
