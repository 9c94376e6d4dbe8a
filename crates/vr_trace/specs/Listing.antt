-- The listing of a job. Its lines are this project's own.
use Rattle.std.specs.Prelude.{ℕ, ◌==◌, cond, nat_le, if◌then◌else◌, List, [], ◌∷◌, ◌++◌, codes}
use Rattle.std.specs.List.{flat_map}
use Rattle.vr_types.specs.declared.reply.Reply.{Reply}
use Rattle.vr_types.specs.declared.request.Request.{Request}
use Rattle.vr_history.specs.declared.entry.Entry.{Entry}
use Rattle.vr_history.specs.declared.entry.What.{What}
use Rattle.vr_history.specs.declared.entry.What.TheVariants.{Asked, Undone, Claimed, Split, Faulted}
use Rattle.vr_history.specs.Merged.{Numbered, merged}
use Rattle.vr_trace.specs.declared.kept.KeptDeck.{KeptDeck}
use Rattle.vr_trace.specs.declared.kept.KeptDeckStep.{KeptDeckStep}
use Rattle.vr_trace.specs.declared.kept.KeptStep.{KeptStep}
use Rattle.vr_trace.specs.declared.kept.KeptStep.TheVariants.{Decks, Utilities}
use Rattle.vr_trace.specs.declared.report.StepReport.{StepReport}
use Rattle.vr_trace.specs.Code.{step_code, job_code}
use Rattle.vr_trace.specs.Lines.{field, verb_of, file_of, result_of, values_of}

-- where a request was asked: its deck, its line and its volume
abbrev pub place_text : Numbered → List ℕ
place_text this =
    field (codes "DECK ") this.entry.unit.deck ++ field (codes " LINE ") this.entry.line
    ++ field (codes " VOL ") this.volume ++ codes " "

-- the line of a request with its reply, in a deck that has these names for its files
abbrev pub asked_line : List (List ℕ) → Numbered → Request → Reply → List ℕ
asked_line names this request reply =
    place_text this ++ verb_of request ++ file_of names request ++ result_of reply
    ++ values_of request reply ++ 10 ∷ []

abbrev pub what_line : List (List ℕ) → Numbered → What → List ℕ
what_line names this (Asked request reply) = asked_line names this request reply
what_line names this (Undone part place) = []
what_line names this (Claimed part area) = []
what_line names this (Split part) = []
what_line names this (Faulted fault) = []

-- the line of an entry, where it is a request of the deck
abbrev pub entry_line : KeptDeck → Numbered → List ℕ
entry_line deck this =
    if this.entry.unit.deck == deck.number then what_line deck.files this this.entry.what else []

-- the requests of a deck on all volumes, in the merged order
abbrev pub deck_lines : List Numbered → KeptDeck → List ℕ
deck_lines entries deck = flat_map (entry_line deck) entries

-- a deck among others, by their numbers
abbrev pub deck_entered : KeptDeck → List KeptDeck → List KeptDeck
deck_entered deck [] = deck ∷ []
deck_entered deck (other ∷ others) =
    cond (nat_le deck.number other.number) (deck ∷ other ∷ others)
    (other ∷ deck_entered deck others)

-- decks by their numbers
abbrev pub by_number : List KeptDeck → List KeptDeck
by_number [] = []
by_number (deck ∷ decks) = deck_entered deck (by_number decks)

-- the lines of the decks, by their numbers
abbrev pub decks_lines : List Numbered → List KeptDeck → List ℕ
decks_lines entries decks = flat_map (deck_lines entries) (by_number decks)

-- the name of a step, and what is said of it
abbrev pub step_line : List ℕ → List ℕ → List ℕ
step_line name said = codes "STEP " ++ name ++ said ++ 10 ∷ []

-- what a step of decks prints
abbrev pub step_listing : List (List Entry) → KeptDeckStep → List ℕ
step_listing histories step =
    step_line step.name (codes " DECKS") ++ decks_lines (merged histories) step.decks
    ++ step_line step.name (field (codes " CODE ") (step_code histories step.decks))

-- what a step of IDCAMS of this name prints
abbrev pub report_listing : List ℕ → StepReport → List ℕ
report_listing name report =
    step_line name (codes " IDCAMS") ++ report.lines
    ++ step_line name (field (codes " CODE ") report.code)

-- what steps print: each step of IDCAMS takes the next report, and prints nothing where none is left
abbrev pub steps_listing : List (List Entry) → List KeptStep → List StepReport → List ℕ
steps_listing histories [] reports = []
steps_listing histories (Decks step ∷ steps) reports =
    step_listing histories step ++ steps_listing histories steps reports
steps_listing histories (Utilities name ∷ steps) [] = steps_listing histories steps []
steps_listing histories (Utilities name ∷ steps) (report ∷ reports) =
    report_listing name report ++ steps_listing histories steps reports

-- the listing of the steps that ran, over the histories of volumes 0 and on
abbrev pub listing_of : List KeptStep → List StepReport → List (List Entry) → List ℕ
listing_of steps reports histories =
    steps_listing histories steps reports
    ++ field (codes "JOB CODE ") (job_code histories steps reports) ++ 10 ∷ []
