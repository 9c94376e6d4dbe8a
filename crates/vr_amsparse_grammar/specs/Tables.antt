-- The tables of parameters, row by row: the word in its long and in its short form, filled with
-- blanks, what it states, which of the words that exclude each other it is, and what it takes. They
-- are those of Access Method Services Commands.
use Rattle.std.specs.Prelude.{ℕ, List, [], ◌∷◌, codes}
use Rattle.vr_amsparse_grammar.specs.declared.row.Choice.{Choice}
use Rattle.vr_amsparse_grammar.specs.declared.row.Choice.TheVariants.{First, Second, Third}
use Rattle.vr_amsparse_grammar.specs.declared.row.Range.{Range}
use Rattle.vr_amsparse_grammar.specs.declared.row.Row.{Row}
use Rattle.vr_amsparse_grammar.specs.declared.row.Slot.{Slot}
use Rattle.vr_amsparse_grammar.specs.declared.row.Slot.TheVariants as slots
use Rattle.vr_amsparse_grammar.specs.declared.row.Takes.{Takes}
use Rattle.vr_amsparse_grammar.specs.declared.row.Takes.TheVariants as takes
use Rattle.vr_amsparse_grammar.specs.declared.row.Value.{Value}
use Rattle.vr_amsparse_grammar.specs.declared.row.Value.TheVariants as values
use Rattle.vr_amsparse_grammar.specs.declared.section.Section.TheVariants as lists

-- a row
abbrev pub row : List ℕ → List ℕ → Slot → Choice → Takes → Row
row long short slot choice taken = record {
  long = long;
  short = short;
  parameter = record { slot = slot; choice = choice; takes = taken };
}

-- from so many values to so many
abbrev pub between : ℕ → ℕ → Value → Takes
between least most value = takes.Values (record { value = value; least = least; most = most })

abbrev pub one_name : Takes
one_name = between 1 1 values.Name

-- a list of names has no end
abbrev pub some_names : Takes
some_names = between 1 18446744073709551615 values.Name

-- the name of data of the step
abbrev pub data_name : Takes
data_name = between 1 1 values.Data

abbrev pub one_class : Takes
one_class = between 1 1 values.Class

abbrev pub one_serial : Takes
one_serial = between 1 1 values.Serial

abbrev pub log_value : Takes
log_value = between 1 1 values.Log

abbrev pub one_text : Takes
one_text = between 1 1 values.Text

-- numbers from the first to the second
abbrev pub from_to : ℕ → ℕ → Range
from_to least most = record { least = least; most = most }

-- any number below 2 to the 32
abbrev pub any_number : Value
any_number = values.Number (from_to 0 4294967295) (from_to 0 4294967295)

abbrev pub one_key : Takes
one_key = between 1 1 values.Key

abbrev pub one_count : Takes
one_count = between 1 1 any_number

abbrev pub two_counts : Takes
two_counts = between 2 2 any_number

-- the primary space, and the secondary
abbrev pub space : Takes
space = between 1 2 any_number

-- parts of a hundred: of control intervals, and of control areas
abbrev pub free_space : Takes
free_space = between 1 2 (values.Number (from_to 0 100) (from_to 0 100))

-- the length of a key, and its offset
abbrev pub keys : Takes
keys = between 2 2 (values.Number (from_to 1 255) (from_to 0 32759))

-- across regions, and across systems
abbrev pub share_options : Takes
share_options = between 1 2 (values.Number (from_to 1 4) (from_to 3 4))

-- what is defined
abbrev pub name_rows : List Row
name_rows =
    row (codes "NAME               ") (codes "      ") slots.Name First one_name ∷ []

-- DATA's own
abbrev pub data_rows : List Row
data_rows =
    row (codes "NAME               ") (codes "      ") slots.DataName First one_name ∷ []

-- INDEX's own. Its interval size is dropped
abbrev pub index_rows : List Row
index_rows =
    row (codes "NAME               ") (codes "      ") slots.IndexName First one_name
    ∷ row (codes "CONTROLINTERVALSIZE") (codes "CISZ  ") slots.IndexIntervalSize First one_count ∷ []

-- what may follow the parentheses of a cluster
abbrev pub cluster_part_rows : List Row
cluster_part_rows =
    row (codes "DATA               ") (codes "      ") slots.DataPart First (takes.Section lists.ClusterData)
    ∷ row (codes "INDEX              ") (codes "IX    ") slots.IndexPart First (takes.Section lists.ClusterIndex) ∷ []

-- what may follow the parentheses of an alternate index
abbrev pub alternate_part_rows : List Row
alternate_part_rows =
    row (codes "DATA               ") (codes "      ") slots.DataPart First (takes.Section lists.AlternateData)
    ∷ row (codes "INDEX              ") (codes "IX    ") slots.IndexPart First (takes.Section lists.AlternateIndex) ∷ []

-- what clusters have and alternate indexes haven't
abbrev pub cluster_rows : List Row
cluster_rows =
    row (codes "INDEXED            ") (codes "IXD   ") slots.Kind First takes.Nothing
    ∷ row (codes "NONINDEXED         ") (codes "NIXD  ") slots.Kind Second takes.Nothing
    ∷ row (codes "NUMBERED           ") (codes "NUMD  ") slots.Kind Third takes.Nothing
    ∷ row (codes "LINEAR             ") (codes "      ") slots.Nothing First takes.LeftOut
    ∷ row (codes "SPANNED            ") (codes "SPND  ") slots.Spanned First takes.Nothing
    ∷ row (codes "NONSPANNED         ") (codes "NSPND ") slots.Spanned Second takes.Nothing
    ∷ row (codes "LOG                ") (codes "      ") slots.Log First log_value ∷ []

-- what alternate indexes have and clusters haven't
abbrev pub alternate_rows : List Row
alternate_rows =
    row (codes "RELATE             ") (codes "REL   ") slots.Related First one_name
    ∷ row (codes "UNIQUEKEY          ") (codes "UNQK  ") slots.Unique First takes.Nothing
    ∷ row (codes "NONUNIQUEKEY       ") (codes "NUNQK ") slots.Unique Second takes.Nothing
    ∷ row (codes "UPGRADE            ") (codes "UPG   ") slots.Upgrade First takes.Nothing
    ∷ row (codes "NOUPGRADE          ") (codes "      ") slots.Nothing First takes.LeftOut ∷ []

-- what both have
abbrev pub space_rows : List Row
space_rows =
    row (codes "KEYS               ") (codes "      ") slots.Keys First keys
    ∷ row (codes "RECORDSIZE         ") (codes "RECSZ ") slots.RecordSize First two_counts
    ∷ row (codes "FREESPACE          ") (codes "FSPC  ") slots.FreeSpace First free_space
    ∷ row (codes "SHAREOPTIONS       ") (codes "SHR   ") slots.ShareOptions First share_options
    ∷ row (codes "CYLINDERS          ") (codes "CYL   ") slots.Space First space
    ∷ row (codes "TRACKS             ") (codes "TRK   ") slots.Space Second space
    ∷ row (codes "RECORDS            ") (codes "REC   ") slots.Space Third space
    ∷ row (codes "VOLUMES            ") (codes "VOL   ") slots.Volumes First one_serial
    ∷ row (codes "CONTROLINTERVALSIZE") (codes "CISZ  ") slots.IntervalSize First one_count
    ∷ row (codes "STORAGECLASS       ") (codes "      ") slots.StorageClass First one_class
    ∷ row (codes "DATACLASS          ") (codes "      ") slots.DataClass First one_class
    ∷ row (codes "MANAGEMENTCLASS    ") (codes "      ") slots.ManagementClass First one_class
    ∷ row (codes "SPEED              ") (codes "      ") slots.Speed First takes.Nothing
    ∷ row (codes "RECOVERY           ") (codes "      ") slots.Speed Second takes.Nothing
    ∷ row (codes "ERASE              ") (codes "      ") slots.Erase First takes.Nothing
    ∷ row (codes "NOERASE            ") (codes "      ") slots.Erase Second takes.Nothing
    ∷ row (codes "NOREUSE            ") (codes "      ") slots.Reuse First takes.Nothing
    ∷ row (codes "REUSE              ") (codes "      ") slots.Nothing First takes.LeftOut
    ∷ row (codes "OWNER              ") (codes "      ") slots.Owner First one_text ∷ []

-- DEFINE PATH
abbrev pub path_rows : List Row
path_rows =
    row (codes "NAME               ") (codes "      ") slots.Name First one_name
    ∷ row (codes "PATHENTRY          ") (codes "PENT  ") slots.Related First one_name
    ∷ row (codes "UPDATE             ") (codes "      ") slots.Update First takes.Nothing ∷ []

-- ALTER, after the name
abbrev pub alter_rows : List Row
alter_rows =
    row (codes "NEWNAME            ") (codes "      ") slots.NewName First one_name
    ∷ row (codes "FREESPACE          ") (codes "FSPC  ") slots.FreeSpace First free_space
    ∷ row (codes "SHAREOPTIONS       ") (codes "SHR   ") slots.ShareOptions First share_options ∷ []

-- DELETE, after the name or the names
abbrev pub delete_rows : List Row
delete_rows =
    row (codes "CLUSTER            ") (codes "CL    ") slots.EntryKind First takes.Nothing
    ∷ row (codes "ALTERNATEINDEX     ") (codes "AIX   ") slots.EntryKind Second takes.Nothing
    ∷ row (codes "PATH               ") (codes "      ") slots.EntryKind Third takes.Nothing
    ∷ row (codes "PURGE              ") (codes "      ") slots.Purge First takes.Nothing
    ∷ row (codes "NOPURGE            ") (codes "      ") slots.Purge Second takes.Nothing
    ∷ row (codes "ERASE              ") (codes "      ") slots.Erase First takes.Nothing
    ∷ row (codes "NOERASE            ") (codes "      ") slots.Erase Second takes.Nothing ∷ []

-- REPRO
abbrev pub repro_rows : List Row
repro_rows =
    row (codes "INFILE             ") (codes "      ") slots.Source First data_name
    ∷ row (codes "INDATASET          ") (codes "IDS   ") slots.Source Second one_name
    ∷ row (codes "OUTDATASET         ") (codes "ODS   ") slots.Target First one_name
    ∷ row (codes "FROMKEY            ") (codes "      ") slots.From First one_key
    ∷ row (codes "SKIP               ") (codes "      ") slots.From Second one_count
    ∷ row (codes "TOKEY              ") (codes "      ") slots.To First one_key
    ∷ row (codes "COUNT              ") (codes "      ") slots.To Second one_count
    ∷ row (codes "REPLACE            ") (codes "REP   ") slots.Replace First takes.Nothing
    ∷ row (codes "NOREPLACE          ") (codes "      ") slots.Replace Second takes.Nothing
    ∷ row (codes "OUTFILE            ") (codes "      ") slots.Nothing First takes.LeftOut
    ∷ row (codes "FROMADDRESS        ") (codes "      ") slots.Nothing First takes.LeftOut
    ∷ row (codes "FROMNUMBER         ") (codes "      ") slots.Nothing First takes.LeftOut ∷ []

-- BLDINDEX
abbrev pub build_rows : List Row
build_rows =
    row (codes "INDATASET          ") (codes "IDS   ") slots.Source Second one_name
    ∷ row (codes "OUTDATASET         ") (codes "ODS   ") slots.Target First one_name
    ∷ row (codes "OUTFILE            ") (codes "      ") slots.Nothing First takes.LeftOut ∷ []

-- PRINT
abbrev pub print_rows : List Row
print_rows =
    row (codes "INDATASET          ") (codes "IDS   ") slots.Source Second one_name
    ∷ row (codes "CHARACTER          ") (codes "CHAR  ") slots.Form First takes.Nothing
    ∷ row (codes "HEX                ") (codes "      ") slots.Form Second takes.Nothing
    ∷ row (codes "DUMP               ") (codes "      ") slots.Form Third takes.Nothing
    ∷ row (codes "FROMKEY            ") (codes "      ") slots.From First one_key
    ∷ row (codes "SKIP               ") (codes "      ") slots.From Second one_count
    ∷ row (codes "TOKEY              ") (codes "      ") slots.To First one_key
    ∷ row (codes "COUNT              ") (codes "      ") slots.To Second one_count
    ∷ row (codes "OUTFILE            ") (codes "      ") slots.Nothing First takes.LeftOut
    ∷ row (codes "FROMADDRESS        ") (codes "      ") slots.Nothing First takes.LeftOut
    ∷ row (codes "FROMNUMBER         ") (codes "      ") slots.Nothing First takes.LeftOut ∷ []

-- LISTCAT
abbrev pub list_rows : List Row
list_rows =
    row (codes "ENTRIES            ") (codes "ENT   ") slots.Entries First some_names
    ∷ row (codes "NAME               ") (codes "      ") slots.Detail First takes.Nothing
    ∷ row (codes "ALL                ") (codes "      ") slots.Detail Second takes.Nothing
    ∷ row (codes "OUTFILE            ") (codes "      ") slots.Nothing First takes.LeftOut ∷ []

-- VERIFY
abbrev pub verify_rows : List Row
verify_rows =
    row (codes "DATASET            ") (codes "DS    ") slots.Name First one_name ∷ []

-- EXAMINE
abbrev pub examine_rows : List Row
examine_rows =
    row (codes "NAME               ") (codes "      ") slots.Name First one_name ∷ []
