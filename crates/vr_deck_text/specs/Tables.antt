-- The tables of verbs and of their operands, row by row. The requests are those of Using Data Sets; how
-- they are written is this project's own.
use Rattle.std.specs.Prelude.{ℕ, true, false, List, [], ◌∷◌, codes}
use Rattle.vr_types.specs.declared.unit.Integrity.{Integrity}
use Rattle.vr_types.specs.declared.unit.Integrity.TheVariants.{Nri, Cr, Cre}
use Rattle.vr_deck_text.specs.declared.row.FileVerb.TheVariants.{Get, Point, Put, Erase, EndReq}
use Rattle.vr_deck_text.specs.declared.row.Row.{Row}
use Rattle.vr_deck_text.specs.declared.row.Settles.{Settles}
use Rattle.vr_deck_text.specs.declared.row.Value.{Value}
use Rattle.vr_deck_text.specs.declared.row.Value.TheVariants as values
use Rattle.vr_deck_text.specs.declared.row.Verb.{Verb}
use Rattle.vr_deck_text.specs.declared.row.Verb.TheVariants.{File, Commit, Backout, On}
use Rattle.vr_deck_text.specs.declared.row.VerbRow.{VerbRow}

-- what is settled: which record, that it may be one past the place, that it is held for update or
-- updated, the integrity of a read, or the bytes of a record
abbrev pub settles_nothing : Settles
settles_nothing =
    record { place = false; least = false; update = false; integrity = false; bytes = false }

abbrev pub settles_place : Settles
settles_place = record settles_nothing { place = true }

abbrev pub settles_least : Settles
settles_least = record settles_nothing { least = true }

-- the next record has a place, and none past it
abbrev pub settles_next : Settles
settles_next = record settles_nothing { place = true; least = true }

abbrev pub settles_update : Settles
settles_update = record settles_nothing { update = true }

-- an update has the place of the record that is held
abbrev pub settles_held : Settles
settles_held = record settles_nothing { place = true; update = true }

abbrev pub settles_integrity : Settles
settles_integrity = record settles_nothing { integrity = true }

abbrev pub settles_bytes : Settles
settles_bytes = record settles_nothing { bytes = true }

-- an operand: its keyword, what it settles, and its value
abbrev pub operand_row : List ℕ → Settles → Value → Row
operand_row keyword settles value =
    record { keyword = keyword; operand = record { settles = settles; value = value } }

abbrev pub integrity_row : List ℕ → Integrity → Row
integrity_row keyword integrity =
    operand_row keyword settles_integrity (values.Integrity integrity)

-- FILE: the integrity of the reads that have none of their own
abbrev pub file_rows : List Row
file_rows =
    integrity_row (codes "NRI  ") Nri ∷ integrity_row (codes "CR   ") Cr
    ∷ integrity_row (codes "CRE  ") Cre ∷ []

-- GET: its record, by key, address, number or in sequence; GE, update, integrity
abbrev pub get_rows : List Row
get_rows =
    operand_row (codes "KEY= ") settles_place values.Key
    ∷ operand_row (codes "RBA= ") settles_place values.Rba
    ∷ operand_row (codes "RRN= ") settles_place values.Rrn
    ∷ operand_row (codes "SEQ  ") settles_next values.Nothing
    ∷ operand_row (codes "GE   ") settles_least values.Nothing
    ∷ operand_row (codes "UPD  ") settles_update values.Nothing
    ∷ integrity_row (codes "NRI  ") Nri ∷ integrity_row (codes "CR   ") Cr
    ∷ integrity_row (codes "CRE  ") Cre ∷ []

-- POINT: the record, and GE
abbrev pub point_rows : List Row
point_rows =
    operand_row (codes "KEY= ") settles_place values.Key
    ∷ operand_row (codes "RBA= ") settles_place values.Rba
    ∷ operand_row (codes "RRN= ") settles_place values.Rrn
    ∷ operand_row (codes "GE   ") settles_least values.Nothing ∷ []

-- PUT: the number, or update, and the bytes
abbrev pub put_rows : List Row
put_rows =
    operand_row (codes "RRN= ") settles_place values.Rrn
    ∷ operand_row (codes "UPD  ") settles_held values.Nothing
    ∷ operand_row (codes "DATA=") settles_bytes values.Data ∷ []

-- a verb by its word
abbrev pub verb_row : List ℕ → Verb → VerbRow
verb_row word verb = record { word = word; verb = verb }

-- all verbs
abbrev pub verb_rows : List VerbRow
verb_rows =
    verb_row (codes "FILE   ") File ∷ verb_row (codes "GET    ") (On Get)
    ∷ verb_row (codes "POINT  ") (On Point) ∷ verb_row (codes "PUT    ") (On Put)
    ∷ verb_row (codes "ERASE  ") (On Erase) ∷ verb_row (codes "ENDREQ ") (On EndReq)
    ∷ verb_row (codes "COMMIT ") Commit ∷ verb_row (codes "BACKOUT") Backout ∷ []
