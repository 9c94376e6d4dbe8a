-- The lists of parameters of each command, by the tables of Tables: which rows each has, which stand
-- in parentheses, and what follows. The parameters are those of Access Method Services Commands.
use Rattle.std.specs.Prelude.{ℕ, Bool, true, false, List, [], Option, Some, None}
use Rattle.vr_amsparse_grammar.specs.declared.row.Row.{Row}
use Rattle.vr_amsparse_grammar.specs.declared.row.Parameter.{Parameter}
use Rattle.vr_amsparse_grammar.specs.declared.section.Section.{Section}
use Rattle.vr_amsparse_grammar.specs.declared.section.Section.TheVariants as lists
use Rattle.vr_amsparse_grammar.specs.Rows.{parameter_among}
use Rattle.vr_amsparse_grammar.specs.Tables.{name_rows, data_rows, index_rows, cluster_part_rows}
use Rattle.vr_amsparse_grammar.specs.Tables.{alternate_part_rows, cluster_rows, alternate_rows}
use Rattle.vr_amsparse_grammar.specs.Tables.{space_rows, path_rows, alter_rows, delete_rows}
use Rattle.vr_amsparse_grammar.specs.Tables.{repro_rows, build_rows, print_rows, list_rows}
use Rattle.vr_amsparse_grammar.specs.Tables.{verify_rows, examine_rows}

-- the rows that a list has for itself
abbrev pub own_rows : Section → List Row
own_rows lists.Cluster = name_rows
own_rows lists.ClusterData = data_rows
own_rows lists.ClusterIndex = index_rows
own_rows lists.ClusterParts = cluster_part_rows
own_rows lists.Alternate = name_rows
own_rows lists.AlternateData = data_rows
own_rows lists.AlternateIndex = index_rows
own_rows lists.AlternateParts = alternate_part_rows
own_rows lists.Path = path_rows
own_rows lists.PathEnd = []
own_rows lists.Alter = alter_rows
own_rows lists.Delete = delete_rows
own_rows lists.Repro = repro_rows
own_rows lists.BuildIndex = build_rows
own_rows lists.Print = print_rows
own_rows lists.ListCatalog = list_rows
own_rows lists.Verify = verify_rows
own_rows lists.Examine = examine_rows
own_rows lists.SetEnd = []

-- the rows that clusters have, or alternate indexes
abbrev pub type_rows : Section → List Row
type_rows lists.Cluster = cluster_rows
type_rows lists.ClusterData = cluster_rows
type_rows lists.ClusterIndex = cluster_rows
type_rows lists.ClusterParts = []
type_rows lists.Alternate = alternate_rows
type_rows lists.AlternateData = alternate_rows
type_rows lists.AlternateIndex = alternate_rows
type_rows lists.AlternateParts = []
type_rows lists.Path = []
type_rows lists.PathEnd = []
type_rows lists.Alter = []
type_rows lists.Delete = []
type_rows lists.Repro = []
type_rows lists.BuildIndex = []
type_rows lists.Print = []
type_rows lists.ListCatalog = []
type_rows lists.Verify = []
type_rows lists.Examine = []
type_rows lists.SetEnd = []

-- the rows that both have
abbrev pub common_rows : Section → List Row
common_rows lists.Cluster = space_rows
common_rows lists.ClusterData = space_rows
common_rows lists.ClusterIndex = space_rows
common_rows lists.ClusterParts = []
common_rows lists.Alternate = space_rows
common_rows lists.AlternateData = space_rows
common_rows lists.AlternateIndex = space_rows
common_rows lists.AlternateParts = []
common_rows lists.Path = []
common_rows lists.PathEnd = []
common_rows lists.Alter = []
common_rows lists.Delete = []
common_rows lists.Repro = []
common_rows lists.BuildIndex = []
common_rows lists.Print = []
common_rows lists.ListCatalog = []
common_rows lists.Verify = []
common_rows lists.Examine = []
common_rows lists.SetEnd = []

-- the first of two that is there
abbrev pub or_else : Option Parameter → Option Parameter → Option Parameter
or_else None other = other
or_else (Some parameter) other = Some parameter

-- the parameter of a word in a list
abbrev pub section_parameter : Section → List ℕ → Option Parameter
section_parameter section word =
    or_else (parameter_among (own_rows section) word)
    (or_else (parameter_among (type_rows section) word) (parameter_among (common_rows section) word))

-- the list stands in parentheses
abbrev pub is_enclosed : Section → Bool
is_enclosed lists.Cluster = true
is_enclosed lists.ClusterData = true
is_enclosed lists.ClusterIndex = true
is_enclosed lists.ClusterParts = false
is_enclosed lists.Alternate = true
is_enclosed lists.AlternateData = true
is_enclosed lists.AlternateIndex = true
is_enclosed lists.AlternateParts = false
is_enclosed lists.Path = true
is_enclosed lists.PathEnd = false
is_enclosed lists.Alter = false
is_enclosed lists.Delete = false
is_enclosed lists.Repro = false
is_enclosed lists.BuildIndex = false
is_enclosed lists.Print = false
is_enclosed lists.ListCatalog = false
is_enclosed lists.Verify = false
is_enclosed lists.Examine = false
is_enclosed lists.SetEnd = false

-- the list that follows one in parentheses
abbrev pub section_after : Section → Section
section_after lists.Cluster = lists.ClusterParts
section_after lists.ClusterData = lists.ClusterParts
section_after lists.ClusterIndex = lists.ClusterParts
section_after lists.ClusterParts = lists.ClusterParts
section_after lists.Alternate = lists.AlternateParts
section_after lists.AlternateData = lists.AlternateParts
section_after lists.AlternateIndex = lists.AlternateParts
section_after lists.AlternateParts = lists.AlternateParts
section_after lists.Path = lists.PathEnd
section_after lists.PathEnd = lists.PathEnd
section_after lists.Alter = lists.Alter
section_after lists.Delete = lists.Delete
section_after lists.Repro = lists.Repro
section_after lists.BuildIndex = lists.BuildIndex
section_after lists.Print = lists.Print
section_after lists.ListCatalog = lists.ListCatalog
section_after lists.Verify = lists.Verify
section_after lists.Examine = lists.Examine
section_after lists.SetEnd = lists.SetEnd

-- the list may have parameters
abbrev pub has_parameters : Section → Bool
has_parameters lists.Cluster = true
has_parameters lists.ClusterData = true
has_parameters lists.ClusterIndex = true
has_parameters lists.ClusterParts = true
has_parameters lists.Alternate = true
has_parameters lists.AlternateData = true
has_parameters lists.AlternateIndex = true
has_parameters lists.AlternateParts = true
has_parameters lists.Path = true
has_parameters lists.PathEnd = false
has_parameters lists.Alter = true
has_parameters lists.Delete = true
has_parameters lists.Repro = true
has_parameters lists.BuildIndex = true
has_parameters lists.Print = true
has_parameters lists.ListCatalog = true
has_parameters lists.Verify = true
has_parameters lists.Examine = true
has_parameters lists.SetEnd = false
