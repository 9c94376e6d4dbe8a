-- What the files of a deck are on: each name is looked up in the catalogs of the volumes, the lowest
-- volume first (DFSMS Using Data Sets, catalogs, alternate indexes and paths; that volumes are tried
-- in this order is this project's own rule).
use Rattle.std.specs.Prelude.{ℕ, ◌+◌, List, [], ◌∷◌, None, true, false, slice_index_or}
use Rattle.std.specs.Option.{option_map, option_map_or}
use Rattle.vr_types.specs.declared.request.FileRef.{FileRef}
use Rattle.vr_types.specs.declared.unit.Kind.{Kind}
use Rattle.vr_types.specs.declared.unit.Kind.TheVariants.{Keyed}
use Rattle.vr_types.specs.declared.unit.PartNo.{PartNo}
use Rattle.vr_catalog.specs.Catalog.{Opened, opened, definition_of}
use Rattle.vr_catalog.specs.declared.entry.CatEntry.{CatEntry}
use Rattle.vr_deck_text.specs.declared.text.DeckFile.{DeckFile}

abbrev pub part_of : ℕ → PartNo
part_of part = record { 0 = part }

-- how the records of a base cluster are organised; one that isn't there counts as keyed
abbrev pub kind_of : List CatEntry → ℕ → Kind
kind_of entries base = option_map_or (λ definition. definition.kind) (definition_of entries base) Keyed

-- file number `slot` of a deck, on a data set of a volume
abbrev pub file_on : ℕ → ℕ → List CatEntry → Opened → FileRef
file_on slot volume entries found = record {
  volume = volume;
  slot = slot;
  base = part_of found.base;
  path = option_map part_of found.path;
  kind = kind_of entries found.base;
  known = true;
}

-- a name that no catalog has counts as one of volume 0
abbrev pub unknown_file : ℕ → FileRef
unknown_file slot = record {
  volume = 0;
  slot = slot;
  base = part_of 0;
  path = None;
  kind = Keyed;
  known = false;
}

-- the file of a name by these catalogs, which are those of the volumes from this one on
abbrev pub file_from : ℕ → List (List CatEntry) → ℕ → List ℕ → FileRef
file_from volume [] slot name = unknown_file slot
file_from volume (entries ∷ catalogs) slot name =
    option_map_or (file_on slot volume entries) (opened entries name)
    (file_from (volume + 1) catalogs slot name)

abbrev pub file_named : List (List CatEntry) → ℕ → List ℕ → FileRef
file_named catalogs slot name = file_from 0 catalogs slot name

-- the files that a deck declares, which are numbered from this number on
abbrev pub files_from : List (List CatEntry) → ℕ → List DeckFile → List FileRef
files_from catalogs slot [] = []
files_from catalogs slot (file ∷ files) =
    file_named catalogs slot file.data_set ∷ files_from catalogs (slot + 1) files

abbrev pub files_of : List (List CatEntry) → List DeckFile → List FileRef
files_of catalogs files = files_from catalogs 0 files

-- the file of a number; one that the deck doesn't declare counts as a name that no catalog has
abbrev pub file_at : List FileRef → ℕ → FileRef
file_at files slot = slice_index_or files slot (unknown_file slot)
