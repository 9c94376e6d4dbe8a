-- The lines of LISTCAT ALL below the name of an entry: what DEFINE of Access Method Services
-- Commands stated of it, and what is counted of its records. The lines are this project's own.
use Rattle.std.specs.Prelude.{ℕ, List, [], ◌∷◌, ◌++◌, codes, Option, Some, None}
use Rattle.std.specs.Option.{option_and_then, option_map, unwrap_or}
use Rattle.vr_types.specs.declared.unit.Kind.{Kind}
use Rattle.vr_types.specs.declared.unit.Kind.TheVariants.{Keyed, Entry, Relative}
use Rattle.vr_types.specs.declared.unit.PartNo.{PartNo}
use Rattle.vr_catalog.specs.declared.entry.CatEntry.{CatEntry}
use Rattle.vr_catalog.specs.declared.entry.EntryKind.{EntryKind}
use Rattle.vr_catalog.specs.declared.entry.EntryKind.TheVariants.{Cluster, Alternate, Path}
use Rattle.vr_catalog.specs.declared.entry.SpaceUnit.{SpaceUnit}
use Rattle.vr_catalog.specs.declared.entry.SpaceUnit.TheVariants.{Unstated, Cylinders, Tracks}
use Rattle.vr_catalog.specs.declared.entry.SpaceUnit.TheVariants.{Records}
use Rattle.vr_catalog.specs.Catalog.{entry_with_part}
use Rattle.vr_trace.specs.Lines.{field}
use Rattle.vr_trace.specs.declared.statistics.Statistics.{Statistics}

-- a keyword and two numbers
abbrev pub field_pair : List ℕ → ℕ → ℕ → List ℕ
field_pair keyword first second = field keyword first ++ field (codes " ") second

-- how the records of a cluster are organised
abbrev pub cluster_kind : Kind → List ℕ
cluster_kind Keyed = codes "KSDS"
cluster_kind Entry = codes "ESDS"
cluster_kind Relative = codes "RRDS"

-- an entry without keys has 0 and 0
abbrev pub sizes : CatEntry → List ℕ
sizes entry = field_pair (codes " KEYS ") entry.key_length entry.key_offset
    ++ field_pair (codes " RECORDSIZE ") entry.average entry.maximum

-- of a data set of this kind; each is LOG(UNDO)
abbrev pub kind_line : List ℕ → CatEntry → List ℕ
kind_line kind entry =
    codes "  KIND " ++ kind ++ sizes entry ++ codes " LOG UNDO" ++ 10 ∷ []

-- CISIZE is 0 where it wasn't stated
abbrev pub share_line : CatEntry → List ℕ
share_line entry =
    field_pair (codes "  FREESPACE ") entry.free_space.interval entry.free_space.area
    ++ field_pair (codes " SHAREOPTIONS ") entry.share_options.regions entry.share_options.systems
    ++ field (codes " CISIZE ") entry.interval_size ++ 10 ∷ []

abbrev pub unit_word : SpaceUnit → List ℕ
unit_word Unstated = codes "NONE"
unit_word Cylinders = codes "CYLINDERS"
unit_word Tracks = codes "TRACKS"
unit_word Records = codes "RECORDS"

abbrev pub space_line : CatEntry → List ℕ
space_line entry = codes "  SPACE " ++ unit_word entry.space
    ++ field_pair (codes " ") entry.primary entry.secondary ++ 10 ∷ []

-- a keyword and a name, where there is one
abbrev pub named_line : List ℕ → Option (List ℕ) → List ℕ
named_line keyword None = []
named_line keyword (Some name) = keyword ++ name ++ 10 ∷ []

-- the names of the data and of the index component
abbrev pub component_lines : CatEntry → List ℕ
component_lines entry =
    named_line (codes "  DATA ") entry.data_name ++ named_line (codes "  INDEX ") entry.index_name

-- the name of a class, or a dash where there is none
abbrev pub class_text : Option (List ℕ) → List ℕ
class_text None = codes " -"
class_text (Some name) = codes " " ++ name

-- the storage class, the data class and the management class
abbrev pub class_line : CatEntry → List ℕ
class_line entry = codes "  CLASSES" ++ class_text entry.storage_class
    ++ class_text entry.data_class ++ class_text entry.management_class ++ 10 ∷ []

-- what is counted: records, data areas, and splits of control intervals and of control areas
abbrev pub count_line : Statistics → List ℕ
count_line numbers = field (codes "  RECORDS ") numbers.records
    ++ field (codes " AREAS ") numbers.areas ++ field (codes " SPLITS CI ") numbers.interval_splits
    ++ field (codes " CA ") numbers.area_splits ++ 10 ∷ []

-- what a data set has: a cluster, or an alternate index
abbrev pub data_lines : List ℕ → CatEntry → Statistics → List ℕ
data_lines kind entry numbers = kind_line kind entry ++ share_line entry ++ space_line entry
    ++ component_lines entry ++ class_line entry ++ count_line numbers

-- the name of the entry that an alternate index or a path stands over
abbrev pub related_name : List CatEntry → CatEntry → Option (List ℕ)
related_name catalog entry = option_map (λ (related : CatEntry). related.name)
    (option_and_then (λ (part : PartNo). entry_with_part catalog part.0) entry.related)

-- none where the catalog has no such entry
abbrev pub related_line : List CatEntry → CatEntry → List ℕ
related_line catalog entry = named_line (codes "  RELATED ") (related_name catalog entry)

abbrev pub alternate_lines : List CatEntry → CatEntry → Statistics → List ℕ
alternate_lines catalog entry numbers =
    data_lines (codes "AIX") entry numbers ++ related_line catalog entry

abbrev pub details_by : EntryKind → List CatEntry → CatEntry → Statistics → List ℕ
details_by Cluster catalog entry numbers =
    data_lines (cluster_kind (unwrap_or entry.kind Keyed)) entry numbers
details_by Alternate catalog entry numbers = alternate_lines catalog entry numbers
details_by Path catalog entry numbers = related_line catalog entry

-- the lines below the name of an entry of a catalog
abbrev pub details_of : List CatEntry → CatEntry → Statistics → List ℕ
details_of catalog entry numbers = details_by entry.entry_kind catalog entry numbers
