-- Tables of verbs and operands: what a word names, which operands a verb has, and which exclude one
-- another, by the tables of Tables.
use Rattle.std.specs.Prelude.{ℕ, Bool, not, ◌&&◌, ◌||◌, ◌==◌, nat_le, List, [], length, take, slice_index}
use Rattle.std.specs.Prelude.{bytes_eq, Option}
use Rattle.std.specs.List.{find}
use Rattle.std.specs.Option.{option_map}
use Rattle.vr_deck_text.specs.declared.row.FileVerb.{FileVerb}
use Rattle.vr_deck_text.specs.declared.row.FileVerb.TheVariants as verbs
use Rattle.vr_deck_text.specs.declared.row.Operand.{Operand}
use Rattle.vr_deck_text.specs.declared.row.Row.{Row}
use Rattle.vr_deck_text.specs.declared.row.Settles.{Settles}
use Rattle.vr_deck_text.specs.declared.row.Verb.{Verb}
use Rattle.vr_deck_text.specs.Tables.{get_rows, point_rows, put_rows, verb_rows}
use Rattle.vr_deck_text.specs.Tables.{settles_place, settles_bytes, settles_nothing}

-- a column that is filled with blanks has this word; no column has the empty word
abbrev pub is_column_of : List ℕ → List ℕ → Bool
is_column_of column word =
    not (length word == 0) && nat_le (length word) (length column)
    && bytes_eq (take (length word) column) word
    && (length word == length column || slice_index column (length word) == 32)

-- the operand of a keyword among these rows
abbrev pub operand_named : List Row → List ℕ → Option Operand
operand_named rows keyword =
    option_map (λ row. row.operand) (find (λ row. is_column_of row.keyword keyword) rows)

-- the verb of a word
abbrev pub verb_named : List ℕ → Option Verb
verb_named word = option_map (λ row. row.verb) (find (λ row. is_column_of row.word word) verb_rows)

-- the operands that a verb may have
abbrev pub rows_of : FileVerb → List Row
rows_of verbs.Get = get_rows
rows_of verbs.Point = point_rows
rows_of verbs.Put = put_rows
rows_of verbs.Erase = []
rows_of verbs.EndReq = []

-- what they have to settle: GET and POINT the record, PUT its bytes
abbrev pub needs_of : FileVerb → Settles
needs_of verbs.Get = settles_place
needs_of verbs.Point = settles_place
needs_of verbs.Put = settles_bytes
needs_of verbs.Erase = settles_nothing
needs_of verbs.EndReq = settles_nothing

-- two operands exclude each other where both settle a thing
abbrev pub overlaps : Settles → Settles → Bool
overlaps one other =
    (one.place && other.place) || (one.least && other.least) || (one.update && other.update)
    || (one.integrity && other.integrity) || (one.bytes && other.bytes)

abbrev pub joined : Settles → Settles → Settles
joined one other = record {
  place = one.place || other.place;
  least = one.least || other.least;
  update = one.update || other.update;
  integrity = one.integrity || other.integrity;
  bytes = one.bytes || other.bytes;
}

-- what has to be settled is; the others may be left out
abbrev pub covers : Settles → Settles → Bool
covers settled needs = (settled.place || not needs.place) && (settled.bytes || not needs.bytes)
