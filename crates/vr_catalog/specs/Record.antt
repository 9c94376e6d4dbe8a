-- The catalog record: 204 bytes that spell an entry, numbers with the high byte first. The layout
-- is this project's own.
use Rattle.std.specs.Prelude.{◌≡◌, ℕ, ◌+◌, ◌-◌, ◌^◌, min, IsTrue, ◌==◌, ◌&&◌, if◌then◌else◌}
use Rattle.std.specs.Prelude.{bit_and, List, [], ◌∷◌, ◌++◌, length, take, drop, replicate}
use Rattle.std.specs.Prelude.{slice_index, Option, Some, None, bytes_eq}
use Rattle.std.specs.List.{before_first, concat}
use Rattle.vr_types.specs.declared.unit.Kind.{Kind}
use Rattle.vr_types.specs.declared.unit.Kind.TheVariants.{Keyed, Entry, Relative}
use Rattle.vr_types.specs.declared.unit.AreaNo.{AreaNo}
use Rattle.vr_types.specs.declared.unit.PartNo.{PartNo}
use Rattle.vr_types.specs.Fields.{two, four, two_at, four_at}
use Rattle.vr_catalog.specs.declared.entry.CatEntry.{CatEntry}
use Rattle.vr_catalog.specs.declared.entry.EntryKind.{EntryKind}
use Rattle.vr_catalog.specs.declared.entry.EntryKind.TheVariants.{Cluster, Alternate, Path}
use Rattle.vr_catalog.specs.declared.entry.SpaceUnit.{SpaceUnit}
use Rattle.vr_catalog.specs.declared.entry.SpaceUnit.TheVariants.{Unstated, Cylinders, Tracks}
use Rattle.vr_catalog.specs.declared.entry.SpaceUnit.TheVariants.{Records}
use Rattle.vr_catalog.specs.Entry.{is_entry}

-- a text in a field of this size, with blanks after it
unfoldable pub padded : ℕ → List ℕ → List ℕ
padded size text = take size text ++ replicate (size - length text) 32

-- a name that there may be, or blanks
abbrev pub text_of : Option (List ℕ) → List ℕ
text_of None = []
text_of (Some text) = text

-- C, A or P
abbrev pub entry_kind_byte : EntryKind → ℕ
entry_kind_byte Cluster = 67
entry_kind_byte Alternate = 65
entry_kind_byte Path = 80

-- K, E or R, or zero
abbrev pub kind_byte : Option Kind → ℕ
kind_byte None = 0
kind_byte (Some Keyed) = 75
kind_byte (Some Entry) = 69
kind_byte (Some Relative) = 82

-- spanned 1, unique 2, built 4
abbrev pub flag_byte : CatEntry → ℕ
flag_byte entry = (if entry.spanned then 1 else 0) + (if entry.unique then 2 else 0) +
    (if entry.built then 4 else 0)

-- the related part, or zero
abbrev pub part_field : Option PartNo → ℕ
part_field None = 0
part_field (Some part) = part.0

-- one above the area's number, or zero
abbrev pub area_field : Option AreaNo → ℕ
area_field None = 0
area_field (Some area) = min (area.0 + 1) (2 ^ 32 - 1)

abbrev pub space_byte : SpaceUnit → ℕ
space_byte Unstated = 0
space_byte Cylinders = 1
space_byte Tracks = 2
space_byte Records = 3

-- the fields of bytes 0 to 47: what the entry is
abbrev pub kind_fields : CatEntry → List (List ℕ)
kind_fields entry = padded 44 entry.name ∷
    (entry_kind_byte entry.entry_kind ∷ kind_byte entry.kind ∷ flag_byte entry ∷ 0 ∷ []) ∷ []

-- of bytes 48 to 71: its parts, its records and its first area
abbrev pub part_fields : CatEntry → List (List ℕ)
part_fields entry =
    four entry.part.0 ∷ four (part_field entry.related)
    ∷ two entry.key_length ∷ two entry.key_offset ∷ four entry.average ∷ four entry.maximum
    ∷ four (area_field entry.first_area) ∷ []

-- of bytes 72 to 91: how it shares and fills its space
abbrev pub space_fields : CatEntry → List (List ℕ)
space_fields entry =
    (entry.free_space.interval ∷ entry.free_space.area
    ∷ entry.share_options.regions ∷ entry.share_options.systems ∷ [])
    ∷ (space_byte entry.space ∷ 0 ∷ 0 ∷ 0 ∷ []) ∷ four entry.primary ∷ four entry.secondary
    ∷ four entry.interval_size ∷ []

-- of bytes 92 to 203: its further names
abbrev pub name_fields : CatEntry → List (List ℕ)
name_fields entry =
    padded 44 (text_of entry.data_name) ∷ padded 44 (text_of entry.index_name)
    ∷ padded 8 (text_of entry.storage_class) ∷ padded 8 (text_of entry.data_class) ∷ padded 8
    (text_of entry.management_class) ∷ []

-- the bytes that spell an entry
unfoldable pub spelling : CatEntry → List ℕ
spelling entry = concat (kind_fields entry) ++ concat (part_fields entry)
    ++ concat (space_fields entry) ++ concat (name_fields entry)

-- The bytes are the record of the entry.
pub record IsCatalogRecord (bytes : List ℕ) (entry : CatEntry) : Type 0 where
  pub entry_is : IsTrue (is_entry entry)
  pub spelled : bytes ≡ spelling entry

-- the text of a field: what stands before its first blank
unfoldable pub text_at : ℕ → ℕ → List ℕ → List ℕ
text_at at size bytes = before_first (λ byte. byte == 32) (take size (drop at bytes))

abbrev pub some_text : List ℕ → Option (List ℕ)
some_text text = if length text == 0 then None else Some text

abbrev pub entry_kind_of : ℕ → EntryKind
entry_kind_of byte = if byte == 65 then Alternate else (if byte == 80 then Path else Cluster)

abbrev pub kind_of : ℕ → Option Kind
kind_of byte = if byte == 75 then Some Keyed else
    (if byte == 69 then Some Entry else (if byte == 82 then Some Relative else None))

abbrev pub space_of : ℕ → SpaceUnit
space_of byte = if byte == 1 then Cylinders else
    (if byte == 2 then Tracks else (if byte == 3 then Records else Unstated))

abbrev pub part_of : ℕ → Option PartNo
part_of number = if number == 0 then None else Some (record { 0 = number })

abbrev pub area_of : ℕ → Option AreaNo
area_of number = if number == 0 then None else Some (record { 0 = number - 1 })

-- the entry that has what the fields of a record say. They spell it only where its own spelling is
-- these bytes
unfoldable pub entry_in : List ℕ → CatEntry
entry_in bytes = record {
  name = text_at 0 44 bytes;
  entry_kind = entry_kind_of (slice_index bytes 44);
  kind = kind_of (slice_index bytes 45);
  spanned = bit_and (slice_index bytes 46) 1 == 1;
  unique = bit_and (slice_index bytes 46) 2 == 2;
  built = bit_and (slice_index bytes 46) 4 == 4;
  part = record { 0 = four_at 48 bytes };
  related = part_of (four_at 52 bytes);
  key_length = two_at 56 bytes;
  key_offset = two_at 58 bytes;
  average = four_at 60 bytes;
  maximum = four_at 64 bytes;
  first_area = area_of (four_at 68 bytes);
  free_space = record { interval = slice_index bytes 72; area = slice_index bytes 73 };
  share_options = record { regions = slice_index bytes 74; systems = slice_index bytes 75 };
  space = space_of (slice_index bytes 76);
  primary = four_at 80 bytes;
  secondary = four_at 84 bytes;
  interval_size = four_at 88 bytes;
  data_name = some_text (text_at 92 44 bytes);
  index_name = some_text (text_at 136 44 bytes);
  storage_class = some_text (text_at 180 8 bytes);
  data_class = some_text (text_at 188 8 bytes);
  management_class = some_text (text_at 196 8 bytes);
}

-- the entry that bytes spell, if they spell one
unfoldable pub entry_of : List ℕ → Option CatEntry
entry_of bytes = if is_entry (entry_in bytes)
    && bytes_eq (spelling (entry_in bytes)) bytes then Some (entry_in bytes) else None
