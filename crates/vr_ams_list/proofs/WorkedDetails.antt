-- Worked lines of LISTCAT ALL: what the definitions make of a cluster, an alternate index over it,
-- and a path.
use Rattle.std.proofs.Common.{◌≡◌, false, ℕ, List, [], ◌∷◌, ◌++◌, codes, Some}
use Rattle.std.proofs.Common.{None, refl}
use Rattle.std.specs.Fmt.{digits}
use Rattle.vr_types.specs.declared.unit.Kind.TheVariants.{Keyed}
use Rattle.vr_catalog.specs.declared.entry.CatEntry.{CatEntry}
use Rattle.vr_catalog.specs.declared.entry.EntryKind.TheVariants.{Cluster, Alternate, Path}
use Rattle.vr_catalog.specs.declared.entry.SpaceUnit.TheVariants.{Unstated, Cylinders}
use Rattle.vr_trace.specs.declared.statistics.Statistics.{Statistics}
use Rattle.vr_ams_list.specs.Details.{details_of}

unfoldable pub master : CatEntry
master = record {
  name = codes "PAY.MASTER";
  entry_kind = Cluster;
  kind = Some Keyed;
  spanned = false;
  unique = false;
  built = false;
  part = record { 0 = 2 };
  related = None;
  key_length = 8;
  key_offset = 0;
  average = 80;
  maximum = 120;
  first_area = Some (record { 0 = 4 });
  free_space = record { interval = 20; area = 10 };
  share_options = record { regions = 1; systems = 3 };
  space = Cylinders;
  primary = 1;
  secondary = 2;
  interval_size = 4096;
  data_name = Some (codes "PAY.MASTER.DATA");
  index_name = Some (codes "PAY.MASTER.INDEX");
  storage_class = None;
  data_class = Some (codes "STANDARD");
  management_class = None;
}

index : CatEntry
index = record {
  name = codes "PAY.NAMEX";
  entry_kind = Alternate;
  kind = Some Keyed;
  spanned = false;
  unique = false;
  built = false;
  part = record { 0 = 3 };
  related = Some (record { 0 = 2 });
  key_length = 5;
  key_offset = 9;
  average = 4086;
  maximum = 32600;
  first_area = None;
  free_space = record { interval = 0; area = 0 };
  share_options = record { regions = 1; systems = 3 };
  space = Unstated;
  primary = 0;
  secondary = 0;
  interval_size = 0;
  data_name = None;
  index_name = None;
  storage_class = None;
  data_class = None;
  management_class = None;
}

path_over : ℕ → CatEntry
path_over part = record index {
  name = codes "PAY.BYNAME";
  entry_kind = Path;
  kind = None;
  part = record { 0 = 4 };
  related = Some (record { 0 = part });
}

unfoldable pub counted : Statistics
counted = record { records = 1000; areas = 3; interval_splits = 12; area_splits = 2 }

entries : List CatEntry
entries = path_over 3 ∷ master ∷ index ∷ []

cluster_details : details_of entries master counted
    ≡ codes "  KIND KSDS KEYS 8 0 RECORDSIZE 80 120 LOG UNDO" ++ 10 ∷ []
    ++ codes "  FREESPACE 20 10 SHAREOPTIONS 1 3 CISIZE 4096" ++ 10 ∷ []
    ++ codes "  SPACE CYLINDERS 1 2" ++ 10 ∷ []
    ++ codes "  DATA PAY.MASTER.DATA" ++ 10 ∷ []
    ++ codes "  INDEX PAY.MASTER.INDEX" ++ 10 ∷ []
    ++ codes "  CLASSES - STANDARD -" ++ 10 ∷ []
    ++ codes "  RECORDS 1000 AREAS 3 SPLITS CI 12 CA 2" ++ 10 ∷ []
unfolding entries master counted digits
cluster_details = refl

index_details : details_of entries index counted
    ≡ codes "  KIND AIX KEYS 5 9 RECORDSIZE 4086 32600 LOG UNDO" ++ 10 ∷ []
    ++ codes "  FREESPACE 0 0 SHAREOPTIONS 1 3 CISIZE 0" ++ 10 ∷ []
    ++ codes "  SPACE NONE 0 0" ++ 10 ∷ []
    ++ codes "  CLASSES - - -" ++ 10 ∷ []
    ++ codes "  RECORDS 1000 AREAS 3 SPLITS CI 12 CA 2" ++ 10 ∷ []
    ++ codes "  RELATED PAY.MASTER" ++ 10 ∷ []
unfolding entries master index path_over counted digits
index_details = refl

path_details : details_of entries (path_over 3) counted ≡ codes "  RELATED PAY.NAMEX" ++ 10 ∷ []
unfolding entries master index path_over
path_details = refl

-- a path over a part that the catalog doesn't have
lone_path : details_of entries (path_over 9) counted ≡ []
unfolding entries master index path_over
lone_path = refl
