-- Which entries LISTCAT lists, after Access Method Services Commands, and its detail lines: those
-- of NAME, and those of ALL, which has more below each name. The lines, and that all volumes are
-- listed together by name, are this project's own.
use Rattle.std.specs.Prelude.{ℕ, Bool, not, cond, ◌||◌, ◌==◌, List, [], ◌∷◌, ◌++◌, codes, length}
use Rattle.std.specs.Prelude.{◌+◌, bytes_eq, map, slice_get}
use Rattle.std.specs.List.{filter, flat_map, list_any}
use Rattle.std.specs.Option.{option_map_or}
use Rattle.std.specs.Ordering.{is_lt}
use Rattle.vr_types.specs.Content.{place_cmp}
use Rattle.vr_catalog.specs.declared.entry.CatEntry.{CatEntry}
use Rattle.vr_catalog.specs.declared.entry.EntryKind.{EntryKind}
use Rattle.vr_catalog.specs.declared.entry.EntryKind.TheVariants.{Cluster, Alternate, Path}
use Rattle.vr_trace.specs.Lines.{field}
use Rattle.vr_trace.specs.Shown.{Shown}
use Rattle.vr_trace.specs.declared.statistics.Statistics.{Statistics}
use Rattle.vr_ams_list.specs.Details.{details_of}
-- an entry that is listed, and the number of its volume
pub use Rattle.vr_ams_list.specs.declared.listed.Listed.{Listed}

-- the entries of a catalog, on the volume of this number
abbrev pub listed_on : ℕ → List CatEntry → List Listed
listed_on number catalog =
    map (λ (entry : CatEntry). record { volume = number; entry = entry }) catalog

-- those of all catalogs, of which the first is on the volume of this number
abbrev pub listed_from : ℕ → List Shown → List Listed
listed_from number [] = []
listed_from number (volume ∷ volumes) =
    listed_on number volume.catalog ++ listed_from (number + 1) volumes

abbrev pub entries_of : List Shown → List Listed
entries_of volumes = listed_from 0 volumes

abbrev pub is_among : List (List ℕ) → List ℕ → Bool
is_among names name = list_any (bytes_eq name) names

-- without names every name is listed, else each that is one of them
abbrev pub is_name_listed : List (List ℕ) → List ℕ → Bool
is_name_listed names name = length names == 0 || is_among names name

-- an entry is listed by its name
abbrev pub is_listed : List (List ℕ) → Listed → Bool
is_listed names listed = is_name_listed names listed.entry.name

-- an entry goes before the first whose name isn't below its own
abbrev pub comes_before : Listed → Listed → Bool
comes_before listed other = not (is_lt (place_cmp other.entry.name listed.entry.name))

-- an entry among others, by their names
abbrev pub entered : Listed → List Listed → List Listed
entered listed [] = listed ∷ []
entered listed (other ∷ others) =
    cond (comes_before listed other) (listed ∷ other ∷ others) (other ∷ entered listed others)

-- entries by their names; of one name, in the order in which they stand
abbrev pub by_name : List Listed → List Listed
by_name [] = []
by_name (listed ∷ others) = entered listed (by_name others)

-- the entries that are listed: by name, and of one name that of the lowest volume first
abbrev pub listed_entries : List Shown → List (List ℕ) → List Listed
listed_entries volumes names = by_name (filter (is_listed names) (entries_of volumes))

-- the word of the listing for the kind of an entry
abbrev pub kind_word : EntryKind → List ℕ
kind_word Cluster = codes "CLUSTER"
kind_word Alternate = codes "AIX"
kind_word Path = codes "PATH"

-- the kind and the name of an entry
abbrev pub entry_line : CatEntry → List ℕ
entry_line entry = kind_word entry.entry_kind ++ codes " " ++ entry.name ++ 10 ∷ []

-- how many entries are listed
abbrev pub total_line : ℕ → List ℕ
total_line count = field (codes "ENTRIES ") count ++ 10 ∷ []

-- ---- NAME

-- the line of an entry
abbrev pub name_line : Listed → List ℕ
name_line listed = entry_line listed.entry

-- a line for each entry, and how many they are
abbrev pub lines_of : List Listed → List ℕ
lines_of listed = flat_map name_line listed ++ total_line (length listed)

-- LISTCAT of these names, or of all entries
abbrev pub detail_lines : List Shown → List (List ℕ) → List ℕ
detail_lines volumes names = lines_of (listed_entries volumes names)

-- ---- ALL

-- the catalog of the volume of a number
abbrev pub catalog_at : List Shown → ℕ → List CatEntry
catalog_at volumes number =
    option_map_or (λ (volume : Shown). volume.catalog) (slice_get volumes number) []

-- the line of an entry, with what it has below its name
abbrev pub full_lines : List Shown → Listed → Statistics → List ℕ
full_lines volumes listed numbers =
    entry_line listed.entry
    ++ details_of (catalog_at volumes listed.volume) listed.entry numbers

-- those of entries, each with its numbers
abbrev pub all_full_lines : List Shown → List Listed → List Statistics → List ℕ
all_full_lines volumes (listed ∷ others) (numbers ∷ more) =
    full_lines volumes listed numbers ++ all_full_lines volumes others more
all_full_lines volumes listed numbers = []

-- so each entry that is listed, and how many they are
abbrev pub all_lines : List Shown → List (List ℕ) → List Statistics → List ℕ
all_lines volumes names numbers =
    all_full_lines volumes (listed_entries volumes names) numbers
    ++ total_line (length (listed_entries volumes names))
