-- The run of the lines, and of the words of a line.
use Rattle.std.proofs.Common.{◌≡◌, ℕ, ◌+◌, ◌<◌, ◌≤◌, List, [], ◌∷◌, length, drop, refl, sym, ap, ◌∙◌, add-one}
use Rattle.std.proofs.Common.{◌⊎◌, inl, inr, Result, Ok, Err}
use Rattle.std.proofs.lemmas.List.{drop_all}
use Rattle.std.proofs.Math.Seq.{drop-cons}
use Rattle.vr_text.specs.Lines.{Line, line_at}
use Rattle.vr_deck_text.specs.declared.fault.DeckCause.{DeckCause}
use Rattle.vr_deck_text.specs.declared.fault.DeckFault.{DeckFault}
use Rattle.vr_deck_text.specs.declared.fault.DeckFault.TheVariants.{Text, Memory}
use Rattle.vr_deck_text.specs.declared.fault.LineFault.{LineFault}
use Rattle.vr_deck_text.specs.declared.fault.Stop.{Stop}
use Rattle.vr_deck_text.specs.declared.fault.Stop.TheVariants as stops
use Rattle.vr_deck_text.specs.declared.given.Given.{Given}
use Rattle.vr_deck_text.specs.declared.row.Row.{Row}
use Rattle.vr_deck_text.specs.declared.text.DeckText.{DeckText}
use Rattle.vr_deck_text.specs.Deck.{with_line, with_lines, told_at, FaultBy}
use Rattle.vr_deck_text.specs.Operands.{with_word, with_words, StopsBy}

-- a line that is left is taken first
line_next : (lines : List Line) (deck : DeckText) (i : ℕ) → i < length lines
    → with_lines (Ok deck) (drop i lines)
    ≡ with_lines (told_at (line_at lines i).number (with_line deck (line_at lines i).number
    (line_at lines i).text)) (drop (i + 1) lines)
line_next lines deck i h =
    ap (with_lines (Ok deck)) (drop-cons lines i (record { number = 0; text = [] }) h)
    ∙ ap (λ n. with_lines (told_at (line_at lines i).number (with_line deck
    (line_at lines i).number (line_at lines i).text)) (drop n lines)) (sym (add-one i))

line_there : (deck : DeckText) (line : Line) (number : ℕ) (text : List ℕ)
    → number ≡ line.number → text ≡ line.text
    → told_at number (with_line deck number text)
    ≡ told_at line.number (with_line deck line.number line.text)
line_there deck line number text n t =
    ap (λ k. told_at k (with_line deck k text)) n
    ∙ ap (λ one. told_at line.number (with_line deck line.number one)) t

pub line_taken : (lines : List Line) (deck next : DeckText) (i number : ℕ) (text : List ℕ)
    (whole : Result DeckText LineFault)
    → i < length lines → number ≡ (line_at lines i).number → text ≡ (line_at lines i).text
    → told_at number (with_line deck number text) ≡ Ok next
    → with_lines (Ok deck) (drop i lines) ≡ whole
    → with_lines (Ok next) (drop (i + 1) lines) ≡ whole
line_taken lines deck next i number text whole h n t e same =
    ap (λ one. with_lines one (drop (i + 1) lines))
    (sym e ∙ line_there deck (line_at lines i) number text n t)
    ∙ sym (line_next lines deck i h) ∙ same

pub line_stops : (lines : List Line) (deck : DeckText) (i number : ℕ) (text : List ℕ)
    (fault : DeckFault) (whole : Result DeckText LineFault)
    → i < length lines → number ≡ (line_at lines i).number → text ≡ (line_at lines i).text
    → FaultBy (told_at number (with_line deck number text)) fault
    → with_lines (Ok deck) (drop i lines) ≡ whole → FaultBy whole fault
line_stops lines deck i number text Memory whole h n t e same = tt
line_stops lines deck i number text (Text fault) whole h n t e same =
    sym same ∙ line_next lines deck i h
    ∙ ap (λ one. with_lines one (drop (i + 1) lines))
    (sym (line_there deck (line_at lines i) number text n t) ∙ e)

pub lines_end : (lines : List Line) (deck : DeckText) (i : ℕ) (whole : Result DeckText LineFault)
    → length lines ≤ i → with_lines (Ok deck) (drop i lines) ≡ whole → whole ≡ Ok deck
lines_end lines deck i whole low same =
    sym same ∙ ap (with_lines (Ok deck)) (drop_all i lines low)

-- a word that is left is taken first
pub word_taken : (rows : List Row) (given next : Given) (all rest : List (List ℕ)) (word : List ℕ)
    (whole : Result Given DeckCause) → all ≡ word ∷ rest → with_word rows given word ≡ Ok next
    → with_words rows (Ok given) all ≡ whole → with_words rows (Ok next) rest ≡ whole
word_taken rows given next all rest word whole cut e same =
    ap (λ one. with_words rows one rest) (sym e) ∙ ap (with_words rows (Ok given)) (sym cut) ∙ same

pub word_stops : (rows : List Row) (given : Given) (all rest : List (List ℕ)) (word : List ℕ)
    (stop : Stop) (whole : Result Given DeckCause) → all ≡ word ∷ rest
    → StopsBy (with_word rows given word) stop
    → with_words rows (Ok given) all ≡ whole → StopsBy whole stop
word_stops rows given all rest word stops.Memory whole cut e same = tt
word_stops rows given all rest word (stops.Bad cause) whole cut e same =
    sym same ∙ ap (with_words rows (Ok given)) cut ∙ ap (λ one. with_words rows one rest) e

pub words_end : (rows : List Row) (given : Given) (all : List (List ℕ))
    (whole : Result Given DeckCause) → all ≡ [] → with_words rows (Ok given) all ≡ whole
    → whole ≡ Ok given
words_end rows given all whole none same = sym same ∙ ap (with_words rows (Ok given)) none

-- lines are a deck or have a fault
pub either_in : (outcome : Result DeckText LineFault)
    → ((deck : DeckText) × (outcome ≡ Ok deck)) ⊎ ((fault : LineFault) × (outcome ≡ Err fault))
either_in (Ok deck) = inl (deck, refl)
either_in (Err fault) = inr (fault, refl)
