-- The command that given parameters make, with its defaults, where each required one is given. The
-- commands and their defaults are those of Access Method Services Commands; that LOG is UNDO is this project's own.
use Rattle.std.specs.Prelude.{ℕ, min, Bool, true, if◌then◌else◌, List, Option, Some, None, is_some}
use Rattle.std.specs.Option.{option_map}
use Rattle.vr_types.specs.declared.unit.Kind.{Kind}
use Rattle.vr_types.specs.declared.unit.Kind.TheVariants as kinds
use Rattle.vr_catalog.specs.declared.entry.EntryKind.{EntryKind}
use Rattle.vr_catalog.specs.declared.entry.EntryKind.TheVariants as entries
use Rattle.vr_catalog.specs.declared.entry.FreeSpace.{FreeSpace}
use Rattle.vr_catalog.specs.declared.entry.ShareOptions.{ShareOptions}
use Rattle.vr_catalog.specs.declared.entry.SpaceUnit.{SpaceUnit}
use Rattle.vr_catalog.specs.declared.entry.SpaceUnit.TheVariants as units
use Rattle.vr_catalog.specs.declared.order.DataOptions.{DataOptions}
use Rattle.vr_catalog.specs.declared.order.NewEntry.{NewEntry}
use Rattle.vr_catalog.specs.declared.order.NewEntry.TheVariants as news
use Rattle.vr_scan.specs.Token.{Token}
use Rattle.vr_amsparse_grammar.specs.declared.given.Given.{Given}
use Rattle.vr_amsparse_grammar.specs.declared.row.Choice.{Choice}
use Rattle.vr_amsparse_grammar.specs.declared.row.Choice.TheVariants.{First, Second, Third}
use Rattle.vr_amsparse_grammar.specs.declared.row.Slot.TheVariants as slots
use Rattle.vr_amsparse_grammar.specs.declared.section.Section.{Section}
use Rattle.vr_amsparse_grammar.specs.declared.section.Section.TheVariants as lists
use Rattle.vr_amsparse_grammar.specs.Moves.{given_in}
use Rattle.vr_amsparse.specs.declared.command.Command.{Command}
use Rattle.vr_amsparse.specs.declared.command.Command.TheVariants as commands
use Rattle.vr_amsparse.specs.declared.command.From.{From}
use Rattle.vr_amsparse.specs.declared.command.From.TheVariants as froms
use Rattle.vr_amsparse.specs.declared.command.To.{To}
use Rattle.vr_amsparse.specs.declared.command.To.TheVariants as tos
use Rattle.vr_amsparse.specs.declared.command.Source.{Source}
use Rattle.vr_amsparse.specs.declared.command.Source.TheVariants as sources
use Rattle.vr_amsparse.specs.declared.command.PrintForm.{PrintForm}
use Rattle.vr_amsparse.specs.declared.command.PrintForm.TheVariants as forms
use Rattle.vr_amsparse.specs.Values.{number_for, name_for}
use Rattle.vr_amsparse.specs.Values.{text_if, text_for, names_for, choice_for, is_first, is_second}

-- INDEXED, NONINDEXED, NUMBERED; INDEXED where none is given
abbrev pub kind_of : Option Choice → Kind
kind_of None = kinds.Keyed
kind_of (Some First) = kinds.Keyed
kind_of (Some Second) = kinds.Entry
kind_of (Some Third) = kinds.Relative

-- CYLINDERS, TRACKS, RECORDS
abbrev pub unit_of : Option Choice → SpaceUnit
unit_of None = units.Unstated
unit_of (Some First) = units.Cylinders
unit_of (Some Second) = units.Tracks
unit_of (Some Third) = units.Records

-- A number is kept in the bits that its field has; the tables of parameters let no greater one through.
-- FREESPACE is (0 0) and SHAREOPTIONS (1 3) where they aren't given.
abbrev pub free_space : List Token → List Given → FreeSpace
free_space tokens given = record {
  interval = min 255 (number_for tokens given slots.FreeSpace 0 0);
  area = min 255 (number_for tokens given slots.FreeSpace 1 0);
}

abbrev pub share_options : List Token → List Given → ShareOptions
share_options tokens given = record {
  regions = min 255 (number_for tokens given slots.ShareOptions 0 1);
  systems = min 255 (number_for tokens given slots.ShareOptions 1 3);
}

-- RECORDSIZE is (4089 4089) where it isn't given, and (4086 32600) of what is spanned and of alternate
-- indexes
abbrev pub usual_average : Bool → ℕ
usual_average long = if long then 4086 else 4089

abbrev pub usual_maximum : Bool → ℕ
usual_maximum long = if long then 32600 else 4089

-- KEYS is (64 0) where it isn't given
abbrev pub data_options : List Token → List Given → Bool → DataOptions
data_options tokens given long = record {
  key_length = min 65535 (number_for tokens given slots.Keys 0 64);
  key_offset = min 65535 (number_for tokens given slots.Keys 1 0);
  average = min 4294967295 (number_for tokens given slots.RecordSize 0 (usual_average long));
  maximum = min 4294967295 (number_for tokens given slots.RecordSize 1 (usual_maximum long));
  free_space = free_space tokens given;
  share_options = share_options tokens given;
  space = unit_of (choice_for given slots.Space);
  primary = min 4294967295 (number_for tokens given slots.Space 0 0);
  secondary = min 4294967295 (number_for tokens given slots.Space 1 0);
  interval_size = min 4294967295 (number_for tokens given slots.IntervalSize 0 0);
  data_name = name_for tokens given slots.DataName;
  index_name = name_for tokens given slots.IndexName;
  storage_class = name_for tokens given slots.StorageClass;
  data_class = name_for tokens given slots.DataClass;
  management_class = name_for tokens given slots.ManagementClass;
}

abbrev pub is_spanned : List Given → Bool
is_spanned given = is_first (choice_for given slots.Spanned)

abbrev pub new_cluster : List Token → List Given → NewEntry
new_cluster tokens given =
    news.Cluster (kind_of (choice_for given slots.Kind)) (is_spanned given)
    (data_options tokens given (is_spanned given))

abbrev pub new_alternate : List Token → List Given → List ℕ → NewEntry
new_alternate tokens given related =
    news.Alternate related (is_first (choice_for given slots.Unique))
    (data_options tokens given true)

-- A command has to have certain names; without one of them there is none. Of all that is defined, the
-- name.
abbrev pub defined : Option (List ℕ) → Option NewEntry → Option (List ℕ) → Option Command
defined (Some name) (Some what) volume =
    Some (commands.Define (record { order = record { name = name; what = what }; volume = volume }))
defined name what volume = None

abbrev pub define_command : List Token → List Given → Option NewEntry → Option Command
define_command tokens given what =
    defined (name_for tokens given slots.Name) what (text_if tokens given slots.Volumes)

abbrev pub define_cluster : List Token → List Given → Option Command
define_cluster tokens given =
    define_command tokens given (Some (new_cluster tokens given))

-- of an alternate index and of a path also the name in RELATE and in PATHENTRY
abbrev pub define_alternate : List Token → List Given → Option Command
define_alternate tokens given =
    define_command tokens given
    (option_map (new_alternate tokens given) (name_for tokens given slots.Related))

abbrev pub define_path : List Token → List Given → Option Command
define_path tokens given =
    define_command tokens given
    (option_map (λ related. news.Path related) (name_for tokens given slots.Related))

-- FREESPACE and SHAREOPTIONS of ALTER, where they are given
abbrev pub altered_space : List Token → List Given → Option Given → Option FreeSpace
altered_space tokens given None = None
altered_space tokens given (Some one) = Some (free_space tokens given)

abbrev pub altered_sharing : List Token → List Given → Option Given → Option ShareOptions
altered_sharing tokens given None = None
altered_sharing tokens given (Some one) = Some (share_options tokens given)

-- ALTER: the name of the entry
abbrev pub alter_by : List Token → List Given → List ℕ → Command
alter_by tokens given name = commands.Alter (record {
  name = name;
  new_name = name_for tokens given slots.NewName;
  free_space = altered_space tokens given (given_in given slots.FreeSpace);
  share_options = altered_sharing tokens given (given_in given slots.ShareOptions);
})

abbrev pub alter_command : List Token → List Given → Option Command
alter_command tokens given =
    option_map (alter_by tokens given) (name_for tokens given slots.Entry)

-- CLUSTER, ALTERNATEINDEX, PATH
abbrev pub entry_kind_of : Option Choice → Option EntryKind
entry_kind_of None = None
entry_kind_of (Some First) = Some entries.Cluster
entry_kind_of (Some Second) = Some entries.Alternate
entry_kind_of (Some Third) = Some entries.Path

-- DELETE: the names of the entries
abbrev pub delete_command : List Token → List Given → Option Command
delete_command tokens given =
    if is_some (given_in given slots.Entry) then Some (commands.Delete (record {
      names = names_for tokens given slots.Entry;
      kind = entry_kind_of (choice_for given slots.EntryKind);
    })) else None

-- INFILE, INDATASET
abbrev pub source_of : List Token → List Given → Option Source
source_of tokens given =
    if is_first (choice_for given slots.Source) then Some (sources.Data
    (text_for tokens given slots.Source)) else option_map (λ name. sources.DataSet name)
    (name_for tokens given slots.Source)

-- FROMKEY, SKIP
abbrev pub from_by : Option Choice → List ℕ → ℕ → From
from_by None key number = froms.Start
from_by (Some First) key number = froms.Key key
from_by (Some Second) key number = froms.Skip number
from_by (Some Third) key number = froms.Start

abbrev pub from_of : List Token → List Given → From
from_of tokens given =
    from_by (choice_for given slots.From)
    (text_for tokens given slots.From) (number_for tokens given slots.From 0 0)

-- TOKEY, COUNT
abbrev pub to_by : Option Choice → List ℕ → ℕ → To
to_by None key number = tos.End
to_by (Some First) key number = tos.Key key
to_by (Some Second) key number = tos.Count number
to_by (Some Third) key number = tos.End

abbrev pub to_of : List Token → List Given → To
to_of tokens given =
    to_by (choice_for given slots.To) (text_for tokens given slots.To)
    (number_for tokens given slots.To 0 0)

-- REPRO: where it reads, and where it writes
abbrev pub repro_of : Option Source → Option (List ℕ) → From → To → Bool → Option Command
repro_of (Some source) (Some target) from to replace = Some (commands.Repro (record {
  source = source;
  target = target;
  from = from;
  to = to;
  replace = replace;
}))
repro_of source target from to replace = None

abbrev pub repro_command : List Token → List Given → Option Command
repro_command tokens given =
    repro_of (source_of tokens given) (name_for tokens given slots.Target) (from_of tokens given)
    (to_of tokens given) (is_first (choice_for given slots.Replace))

-- BLDINDEX: the base, and the alternate index
abbrev pub build_of : Option (List ℕ) → Option (List ℕ) → Option Command
build_of (Some base) (Some alternate) =
    Some (commands.BuildIndex (record { base = base; alternate = alternate }))
build_of base alternate = None

abbrev pub build_command : List Token → List Given → Option Command
build_command tokens given =
    build_of (name_for tokens given slots.Source) (name_for tokens given slots.Target)

-- CHARACTER, HEX, DUMP; DUMP where none is given
abbrev pub form_of : Option Choice → PrintForm
form_of None = forms.Dump
form_of (Some First) = forms.Character
form_of (Some Second) = forms.Hex
form_of (Some Third) = forms.Dump

-- PRINT: where it reads
abbrev pub print_by : List Token → List Given → List ℕ → Command
print_by tokens given source = commands.Print (record {
  source = source;
  form = form_of (choice_for given slots.Form);
  from = from_of tokens given;
  to = to_of tokens given;
})

abbrev pub print_command : List Token → List Given → Option Command
print_command tokens given =
    option_map (print_by tokens given) (name_for tokens given slots.Source)

-- NAME, ALL; NAME where none is given
abbrev pub list_command : List Token → List Given → Command
list_command tokens given = commands.ListCatalog (record {
  entries = names_for tokens given slots.Entries;
  all = is_second (choice_for given slots.Detail);
})

-- VERIFY, EXAMINE: the name of the data set
abbrev pub verify_command : List Token → List Given → Option Command
verify_command tokens given =
    option_map (λ name. commands.Verify name) (name_for tokens given slots.Name)

abbrev pub examine_command : List Token → List Given → Option Command
examine_command tokens given =
    option_map (λ name. commands.Examine name) (name_for tokens given slots.Name)

-- the command that ends with this list, where each required parameter is given; SET makes none of
-- given parameters
abbrev pub command_of : Section → List Token → List Given → Option Command
command_of lists.ClusterParts tokens given = define_cluster tokens given
command_of lists.AlternateParts tokens given = define_alternate tokens given
command_of lists.PathEnd tokens given = define_path tokens given
command_of lists.Alter tokens given = alter_command tokens given
command_of lists.Delete tokens given = delete_command tokens given
command_of lists.Repro tokens given = repro_command tokens given
command_of lists.BuildIndex tokens given = build_command tokens given
command_of lists.Print tokens given = print_command tokens given
command_of lists.ListCatalog tokens given = Some (list_command tokens given)
command_of lists.Verify tokens given = verify_command tokens given
command_of lists.Examine tokens given = examine_command tokens given
command_of section tokens given = None
