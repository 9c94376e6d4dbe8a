-- What the decks of a job request, by the catalogs of the volumes. The rules are this project's
-- own.
use Rattle.std.specs.Prelude.{◌≡◌, ℕ, suc, ◌==◌, if◌then◌else◌, List, [], ◌∷◌, ◌++◌, flat_map, map}
use Rattle.vr_trace.specs.Shown.{Shown}
use Rattle.vr_types.specs.declared.bound.Bound.{Bound}
use Rattle.vr_catalog.specs.declared.entry.CatEntry.{CatEntry}
use Rattle.vr_bind.specs.Bound.{bound_requests}
use Rattle.vr_job_text.specs.declared.job.JobStep.{JobStep}
use Rattle.vr_job_text.specs.declared.job.JobStep.TheVariants.{Decks, Utilities}
use Rattle.vr_job_text.specs.declared.text.Deck.{Deck}
use Rattle.vr_job_text.specs.declared.text.Step.{Step}

-- the catalogs of volumes, as they are shown
abbrev pub catalogs_of : {V : Type 0} → (V → Shown) → List V → List (List CatEntry)
catalogs_of {V} shown volumes = map (λ (volume : V). (shown volume).catalog) volumes

-- the requests of a deck, as each deck number has them: none at another number
abbrev pub of_deck : ℕ → List Bound → ℕ → List Bound
of_deck own requests deck = if own == deck then requests else []

-- a list goes on as another does
abbrev pub IsPrefixOf : List Bound → List Bound → Type 0
IsPrefixOf prefix whole = (rest : List Bound) × (prefix ++ rest ≡ whole)

-- what a deck requests
abbrev pub requests_of : List (List CatEntry) → Deck → ℕ → List Bound
requests_of catalogs deck number = of_deck deck.number (bound_requests deck.text catalogs) number

-- what each of some requests, one after another
abbrev pub all_ask : {X : Type 0} → (X → ℕ → List Bound) → List X → ℕ → List Bound
all_ask asks those number = flat_map (λ one. asks one number) those

-- what the decks of a step of decks request
abbrev pub step_asks : List (List CatEntry) → Step → ℕ → List Bound
step_asks catalogs step = all_ask (requests_of catalogs) step.decks

-- and those of a step of a job, by the catalogs as it begins: one of IDCAMS has none
abbrev pub job_step_asks : List (List CatEntry) → JobStep → ℕ → List Bound
job_step_asks catalogs (Decks step) deck = step_asks catalogs step deck
job_step_asks catalogs (Utilities step) deck = []

-- and those of steps, the first of which has this number, each by the catalogs of its own number
abbrev pub steps_ask : (ℕ → List (List CatEntry)) → ℕ → List JobStep → ℕ → List Bound
steps_ask catalogs number [] deck = []
steps_ask catalogs number (step ∷ steps) deck =
    job_step_asks (catalogs number) step deck ++ steps_ask catalogs (suc number) steps deck
