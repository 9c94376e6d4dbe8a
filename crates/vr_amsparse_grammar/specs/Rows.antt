-- Tables of parameters: which parameter a word names.
use Rattle.std.specs.Prelude.{ℕ, Bool, not, ◌&&◌, ◌||◌, ◌==◌, nat_le, List, length, take, slice_index}
use Rattle.std.specs.Prelude.{bytes_eq, Option}
use Rattle.std.specs.List.{find}
use Rattle.std.specs.Option.{option_map}
use Rattle.vr_amsparse_grammar.specs.declared.row.Row.{Row}
use Rattle.vr_amsparse_grammar.specs.declared.row.Parameter.{Parameter}
use Rattle.vr_amsparse_grammar.specs.declared.row.Slot.{Slot}
use Rattle.vr_amsparse_grammar.specs.declared.row.Slot.TheVariants as slots
use Rattle.vr_amsparse_grammar.specs.declared.row.Choice.{Choice}
use Rattle.vr_amsparse_grammar.specs.declared.row.Choice.TheVariants as choices

-- slots and choices by number, so that they can be compared
abbrev pub slot_number : Slot → ℕ
slot_number slots.Speed = 0
slot_number slots.Erase = 1
slot_number slots.Reuse = 2
slot_number slots.Owner = 3
slot_number slots.Purge = 4
slot_number slots.Nothing = 5
slot_number slots.Name = 6
slot_number slots.DataName = 7
slot_number slots.IndexName = 8
slot_number slots.Kind = 9
slot_number slots.Keys = 10
slot_number slots.RecordSize = 11
slot_number slots.Spanned = 12
slot_number slots.FreeSpace = 13
slot_number slots.ShareOptions = 14
slot_number slots.Space = 15
slot_number slots.Volumes = 16
slot_number slots.IntervalSize = 17
slot_number slots.IndexIntervalSize = 18
slot_number slots.Log = 19
slot_number slots.StorageClass = 20
slot_number slots.DataClass = 21
slot_number slots.ManagementClass = 22
slot_number slots.Related = 23
slot_number slots.Unique = 24
slot_number slots.Upgrade = 25
slot_number slots.Update = 26
slot_number slots.DataPart = 27
slot_number slots.IndexPart = 28
slot_number slots.Entry = 29
slot_number slots.NewName = 30
slot_number slots.EntryKind = 31
slot_number slots.Source = 32
slot_number slots.Target = 33
slot_number slots.From = 34
slot_number slots.To = 35
slot_number slots.Replace = 36
slot_number slots.Form = 37
slot_number slots.Entries = 38
slot_number slots.Detail = 39

abbrev pub choice_number : Choice → ℕ
choice_number choices.First = 0
choice_number choices.Second = 1
choice_number choices.Third = 2

-- a column that is filled with blanks has this word; no column has the empty word
abbrev pub is_column_of : List ℕ → List ℕ → Bool
is_column_of column word =
    not (length word == 0) && nat_le (length word) (length column)
    && bytes_eq (take (length word) column) word
    && (length word == length column || slice_index column (length word) == 32)

-- the word is one of the two forms of the row
abbrev pub is_row_of : List ℕ → Row → Bool
is_row_of word row = is_column_of row.long word || is_column_of row.short word

-- the parameter of a word among these rows
abbrev pub parameter_among : List Row → List ℕ → Option Parameter
parameter_among rows word = option_map (λ row. row.parameter) (find (is_row_of word) rows)
