-- What PRINT prints of a record, and at its end. The line before a record, and the one at the end,
-- are this project's own.
use Rattle.std.specs.Prelude.{ℕ, List, [], ◌∷◌, ◌++◌, codes}
use Rattle.vr_types.specs.declared.unit.Kind.{Kind}
use Rattle.vr_types.specs.declared.unit.Kind.TheVariants.{Keyed, Entry, Relative}
use Rattle.vr_trace.specs.Lines.{field, place_named}
use Rattle.vr_amsparse.specs.declared.command.PrintForm.{PrintForm}
use Rattle.vr_ams_print.specs.Lines.{lines_of}

-- what a place in a data set of the kind is called: a key, a relative byte address, or a relative
-- record number
abbrev pub place_word : Kind → List ℕ
place_word Keyed = codes "KEY "
place_word Entry = codes "RBA "
place_word Relative = codes "RRN "

-- where the record is in its data set
abbrev pub place_line : Kind → List ℕ → List ℕ
place_line kind place = place_word kind ++ place_named kind place ++ 10 ∷ []

-- a record: its place, and the lines of its bytes
abbrev pub record_text : Kind → List ℕ → PrintForm → List ℕ → List ℕ
record_text kind place form bytes = place_line kind place ++ lines_of form bytes

-- how many records were printed
abbrev pub printed_line : ℕ → List ℕ
printed_line count = field (codes "PRINTED ") count ++ 10 ∷ []
