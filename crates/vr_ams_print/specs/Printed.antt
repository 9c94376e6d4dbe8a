-- Which records PRINT prints, after Access Method Services Commands, and its lines.
use Rattle.std.specs.Prelude.{ℕ, Bool, true, false, ◌||◌, List, ◌++◌, drop, length, take}
use Rattle.std.specs.Prelude.{take_while, Option, Some, None}
use Rattle.std.specs.List.{flat_map}
use Rattle.std.specs.Ordering.{is_le}
use Rattle.vr_types.specs.Content.{place_cmp}
use Rattle.vr_types.specs.declared.unit.Kind.{Kind}
use Rattle.vr_amsparse.specs.declared.command.From.{From}
use Rattle.vr_amsparse.specs.declared.command.From.TheVariants as first
use Rattle.vr_amsparse.specs.declared.command.PrintForm.{PrintForm}
use Rattle.vr_amsparse.specs.declared.command.To.{To}
use Rattle.vr_amsparse.specs.declared.command.To.TheVariants as last
use Rattle.vr_trace.specs.Visitors.{Visited}
use Rattle.vr_ams_print.specs.Record.{printed_line, record_text}

-- whether it reads by keys
abbrev pub is_from_key : From → Bool
is_from_key first.Start = false
is_from_key (first.Key key) = true
is_from_key (first.Skip count) = false

abbrev pub is_to_key : To → Bool
is_to_key last.End = false
is_to_key (last.Key key) = true
is_to_key (last.Count count) = false

abbrev pub has_keys : From → To → Bool
has_keys from to = is_from_key from || is_to_key to

-- FROMKEY: the records are read from the first on whose key is this one or past it
abbrev pub first_place : From → Option (List ℕ)
first_place first.Start = None
first_place (first.Key key) = Some key
first_place (first.Skip count) = None

-- SKIP: how many records are passed over
abbrev pub skipped : From → ℕ
skipped first.Start = 0
skipped (first.Key key) = 0
skipped (first.Skip count) = count

-- The key of the record, cut to the length of the key of TOKEY, is at most that: so a short one
-- takes each record whose key begins with it.
abbrev pub is_up_to : List ℕ → Visited → Bool
is_up_to key one = is_le (place_cmp (take (length key) one.0) key)

-- those up to TOKEY, or as many as COUNT says
abbrev pub ended_by : To → List Visited → List Visited
ended_by last.End records = records
ended_by (last.Key key) records = take_while (is_up_to key) records
ended_by (last.Count count) records = take count records

-- those that are printed of the records of a data set that are read, which have their places
abbrev pub printed : From → To → List Visited → List Visited
printed from to records = ended_by to (drop (skipped from) records)

-- what is printed of a record
abbrev pub text_of : Kind → PrintForm → Visited → List ℕ
text_of kind form one = record_text kind one.0 form one.1

-- each record, and how many there were
abbrev pub print_lines : Kind → PrintForm → List Visited → List ℕ
print_lines kind form records =
    flat_map (text_of kind form) records ++ printed_line (length records)
