-- The operands of a line: word by word, after the table of the verb.
use Rattle.std.specs.Prelude.{◌≡◌, ℕ, List, [], ◌∷◌, Option, Some, None, Result, Ok, Err, if◌then◌else◌}
use Rattle.vr_types.specs.declared.unit.Integrity.{Integrity}
use Rattle.vr_deck_text.specs.declared.fault.DeckCause.{DeckCause}
use Rattle.vr_deck_text.specs.declared.fault.DeckCause.TheVariants as causes
use Rattle.vr_deck_text.specs.declared.fault.Stop.{Stop}
use Rattle.vr_deck_text.specs.declared.fault.Stop.TheVariants.{Bad, Memory}
use Rattle.vr_deck_text.specs.declared.given.Given.{Given}
use Rattle.vr_deck_text.specs.declared.row.Operand.{Operand}
use Rattle.vr_deck_text.specs.declared.row.Row.{Row}
use Rattle.vr_deck_text.specs.declared.row.Settles.{Settles}
use Rattle.vr_deck_text.specs.declared.row.Value.{Value}
use Rattle.vr_deck_text.specs.declared.row.Value.TheVariants as values
use Rattle.vr_deck_text.specs.declared.text.At.{At}
use Rattle.vr_deck_text.specs.declared.text.At.TheVariants as places
use Rattle.vr_deck_text.specs.Rows.{operand_named, overlaps, joined, covers}
use Rattle.vr_deck_text.specs.Tables.{settles_nothing}
use Rattle.vr_deck_text.specs.Values.{literal_in, small_number_in}
use Rattle.vr_deck_text.specs.Words.{keyword, value}

-- why a call stops: by the cause that the definition gives; memory may run out at any time
abbrev pub StopsBy : {T : Type 0} → Result T DeckCause → Stop → Type 0
StopsBy outcome (Bad cause) = outcome ≡ Err cause
StopsBy outcome Memory = Unit {0}

abbrev pub none_given : Given
none_given = record { settles = settles_nothing; at = None; integrity = None; bytes = [] }

abbrev pub settled_too : Given → Settles → Given
settled_too given more = record {
  settles = joined given.settles more;
  at = given.at;
  integrity = given.integrity;
  bytes = given.bytes;
}

abbrev pub with_at : Given → At → Given
with_at given at = record {
  settles = given.settles;
  at = Some at;
  integrity = given.integrity;
  bytes = given.bytes;
}

abbrev pub with_integrity : Given → Integrity → Given
with_integrity given integrity = record {
  settles = given.settles;
  at = given.at;
  integrity = Some integrity;
  bytes = given.bytes;
}

abbrev pub with_bytes : Given → List ℕ → Given
with_bytes given bytes = record {
  settles = given.settles;
  at = given.at;
  integrity = given.integrity;
  bytes = bytes;
}

-- what a value gives, or the fault where there is none
abbrev pub given_by : {T : Type 0} → Option T → (T → Given) → DeckCause → Result Given DeckCause
given_by (Some x) given cause = Ok (given x)
given_by None given cause = Err cause

abbrev pub with_key : Given → List ℕ → Result Given DeckCause
with_key given text =
    given_by (literal_in text) (λ key. with_at given (places.Key key)) causes.BadLiteral

abbrev pub with_data : Given → List ℕ → Result Given DeckCause
with_data given text = given_by (literal_in text) (with_bytes given) causes.BadLiteral

abbrev pub with_rba : Given → List ℕ → Result Given DeckCause
with_rba given text =
    given_by (small_number_in text) (λ n. with_at given (places.Rba n)) causes.BadNumber

abbrev pub with_rrn : Given → List ℕ → Result Given DeckCause
with_rrn given text =
    given_by (small_number_in text) (λ n. with_at given (places.Rrn n)) causes.BadNumber

abbrev pub with_value : Given → Value → List ℕ → Result Given DeckCause
with_value given values.Key text = with_key given text
with_value given values.Rba text = with_rba given text
with_value given values.Rrn text = with_rrn given text
with_value given values.Data text = with_data given text
with_value given values.Nothing text = Ok given
with_value given (values.Integrity integrity) text = Ok (with_integrity given integrity)

-- an operand that is excluded by one before it is at fault before its value
abbrev pub with_operand : Given → Operand → List ℕ → Result Given DeckCause
with_operand given operand text =
    if overlaps given.settles operand.settles then Err causes.Operands else with_value
    (settled_too given operand.settles) operand.value text

abbrev pub with_named : Given → Option Operand → List ℕ → Result Given DeckCause
with_named given None text = Err causes.UnknownOperand
with_named given (Some operand) text = with_operand given operand text

abbrev pub with_word : List Row → Given → List ℕ → Result Given DeckCause
with_word rows given word = with_named given (operand_named rows (keyword word)) (value word)

-- word by word: the first fault stays
abbrev pub with_words : List Row → Result Given DeckCause → List (List ℕ) → Result Given DeckCause
with_words rows (Err cause) words = Err cause
with_words rows (Ok given) [] = Ok given
with_words rows (Ok given) (word ∷ words) = with_words rows (with_word rows given word) words

-- what is missing is reported last
abbrev pub complete : Settles → Result Given DeckCause → Result Given DeckCause
complete needs (Err cause) = Err cause
complete needs (Ok given) = if covers given.settles needs then Ok given else Err causes.Operands

abbrev pub operands_in : List Row → Settles → List (List ℕ) → Result Given DeckCause
operands_in rows needs words = complete needs (with_words rows (Ok none_given) words)
