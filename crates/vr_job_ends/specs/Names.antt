-- What the listing shows of a job's text: the names of its steps, the numbers of its decks, and the
-- names that these have for their files. That it shows these is this project's own.
use Rattle.std.specs.Prelude.{ℕ, List, map}
use Rattle.vr_deck_text.specs.declared.text.DeckFile.{DeckFile}
use Rattle.vr_job_text.specs.declared.job.JobStep.{JobStep}
use Rattle.vr_job_text.specs.declared.job.JobStep.TheVariants.{Decks, Utilities}
use Rattle.vr_job_text.specs.declared.text.Deck.{Deck}
use Rattle.vr_job_text.specs.declared.text.Step.{Step}
use Rattle.vr_trace.specs.declared.kept.KeptDeck.{KeptDeck}
use Rattle.vr_trace.specs.declared.kept.KeptDeckStep.{KeptDeckStep}
use Rattle.vr_trace.specs.declared.kept.KeptStep.{KeptStep}
use Rattle.vr_trace.specs.declared.kept.KeptStep.TheVariants as kept

abbrev pub names_in : List DeckFile → List (List ℕ)
names_in files = map (λ (file : DeckFile). file.name) files

abbrev pub kept_deck : Deck → KeptDeck
kept_deck deck = record { number = deck.number; files = names_in deck.text.files }

abbrev pub kept_deck_step : Step → KeptDeckStep
kept_deck_step step = record { name = step.name; decks = map kept_deck step.decks }

abbrev pub kept_step : JobStep → KeptStep
kept_step (Decks step) = kept.Decks (kept_deck_step step)
kept_step (Utilities step) = kept.Utilities step.name

abbrev pub names_of : List JobStep → List KeptStep
names_of steps = map kept_step steps
