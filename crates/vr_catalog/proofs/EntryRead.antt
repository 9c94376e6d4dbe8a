-- An entry is read back from its record.
use Rattle.std.proofs.Common.{◌≡◌, ◌<◌, ◌≤◌, ◌+◌, ◌-◌, ◌^◌, ◌++◌, ◌&&◌, ◌∙◌, ℕ, suc, min}
use Rattle.std.proofs.Common.{true, List, [], length, take, drop, get_or, refl, sym, ap}
use Rattle.std.proofs.Common.{subst, arith, append_assoc, length-append}
use Rattle.std.specs.Prelude.{Some, None, Option, IsTrue, is_none, ◌==◌, slice_index}
use Rattle.std.specs.Prelude.{bit_and}
use Rattle.std.specs.List.{concat, list_any}
use Rattle.std.proofs.lemmas.Bool.Decides.{nat_tests}
use Rattle.std.proofs.lemmas.Bool.{not-true, and_parts, ne_eqb}
use Rattle.std.proofs.lemmas.List.{get_or-take, get_or-drop}
use Rattle.std.proofs.lemmas.Nat.{from_be_bytes-to_be_bytes_2, from_be_bytes-to_be_bytes_4}
use Rattle.vr_types.specs.Fields.{two, four, two_at, four_at}
use Rattle.vr_types.specs.declared.unit.Kind.{Kind}
use Rattle.vr_types.specs.declared.unit.Kind.TheVariants.{Keyed, Entry, Relative}
use Rattle.vr_types.specs.declared.unit.AreaNo.{AreaNo}
use Rattle.vr_types.specs.declared.unit.PartNo.{PartNo}
use Rattle.vr_catalog.specs.declared.entry.CatEntry.{CatEntry}
use Rattle.vr_catalog.specs.declared.entry.EntryKind.{EntryKind}
use Rattle.vr_catalog.specs.declared.entry.EntryKind.TheVariants.{Cluster, Alternate, Path}
use Rattle.vr_catalog.specs.declared.entry.SpaceUnit.{SpaceUnit}
use Rattle.vr_catalog.specs.declared.entry.SpaceUnit.TheVariants.{Unstated, Cylinders, Tracks}
use Rattle.vr_catalog.specs.declared.entry.SpaceUnit.TheVariants.{Records}
use Rattle.vr_catalog.specs.Entry.{is_name, is_name_or_none, are_names, is_entry, is_allowed}
use Rattle.vr_catalog.specs.Entry.{is_cluster, is_alternate, is_path, is_of_kind}
use Rattle.vr_catalog.specs.Entry.{are_keys_of, is_space, is_part, is_related}
use Rattle.vr_catalog.specs.Entry.{is_area_or_none, is_class_or_none}
use Rattle.vr_catalog.specs.Record.{spelling, entry_in, text_at, some_text, text_of, padded}
use Rattle.vr_catalog.specs.Record.{part_field, part_of, area_field, area_of, kind_fields}
use Rattle.vr_catalog.specs.Record.{part_fields, space_fields, name_fields, entry_kind_byte}
use Rattle.vr_catalog.specs.Record.{entry_kind_of, kind_byte, kind_of, flag_byte, space_byte}
use Rattle.vr_catalog.specs.Record.{space_of}
use Rattle.vr_catalog.proofs.FieldLemmas.{field_of_concat, text_read, flags_read, kind_read}
use Rattle.vr_catalog.proofs.FieldLemmas.{organisation_read, space_read}
use Rattle.vr_catalog.proofs.RecordLemmas.{length-two, length-four, length-padded}
use Rattle.vr_catalog.proofs.NameLemmas.{name_short, name_some, name_plain, class_short}

-- ---- what the test of an entry says of its numbers

-- the numbers of an entry fit their fields, and its part and area are told by theirs
pub record Numbers (entry : CatEntry) : Type 0 where
  key_length : entry.key_length < 2 ^ 16
  key_offset : entry.key_offset < 2 ^ 16
  average : entry.average < 2 ^ 32
  maximum : entry.maximum < 2 ^ 32
  primary : entry.primary < 2 ^ 32
  secondary : entry.secondary < 2 ^ 32
  interval_size : entry.interval_size < 2 ^ 32
  related_fits : part_field entry.related < 2 ^ 32
  related_read : part_of (part_field entry.related) ≡ entry.related
  storage : is_class_or_none entry.storage_class ≡ true
  data_class : is_class_or_none entry.data_class ≡ true
  management : is_class_or_none entry.management_class ≡ true

space_fits : (unit : SpaceUnit) (primary secondary : ℕ) → is_space unit primary secondary ≡ true
    → (primary < 2 ^ 32) × (secondary < 2 ^ 32)
space_fits Unstated primary secondary is =
    (grind (arith, nat_tests, and_parts), grind (arith, nat_tests, and_parts))
space_fits Cylinders primary secondary is =
    (grind (arith, nat_tests, and_parts), grind (arith, nat_tests, and_parts))
space_fits Tracks primary secondary is =
    (grind (arith, nat_tests, and_parts), grind (arith, nat_tests, and_parts))
space_fits Records primary secondary is =
    (grind (arith, nat_tests, and_parts), grind (arith, nat_tests, and_parts))

keys_fit : (kind : Option Kind) (key_length key_offset : ℕ)
    → are_keys_of kind key_length key_offset ≡ true → (key_length < 2 ^ 16) × (key_offset < 2 ^ 16)
keys_fit None key_length key_offset is = absurd (cc)
keys_fit (Some Keyed) key_length key_offset is =
    (grind (arith, nat_tests, and_parts), grind (arith, nat_tests, and_parts))
keys_fit (Some Entry) key_length key_offset is =
    (grind (arith, nat_tests, and_parts), grind (arith, nat_tests, and_parts))
keys_fit (Some Relative) key_length key_offset is =
    (grind (arith, nat_tests, and_parts), grind (arith, nat_tests, and_parts))

none_related : (related : Option PartNo) → is_none related ≡ true
    → (part_field related < 2 ^ 32) × (part_of (part_field related) ≡ related)
none_related None is = (omega arith, refl)
none_related (Some part) is = absurd (cc)

some_related : (related : Option PartNo) → is_related related ≡ true
    → (part_field related < 2 ^ 32) × (part_of (part_field related) ≡ related)
some_related None is = absurd (cc)
some_related (Some part) is =
    let positive : 0 < part.0 = grind (arith, nat_tests, and_parts) in (
      grind (arith, nat_tests, and_parts),
      rw
          (ne_eqb part.0 0 (λ zero. omega (arith, zero, positive))) refl,
    )

area_before : (area : AreaNo) → suc area.0 - 1 ≡ area.0
area_before area = omega arith

area_read : (area : Option AreaNo) → is_area_or_none area ≡ true
    → (area_field area < 2 ^ 32) × (area_of (area_field area) ≡ area)
area_read None is = (omega arith, refl)
area_read (Some area) is =
    let fits : area.0 + 1 < 2 ^ 32 = grind (arith, nat_tests) in
    let one_above : min (area.0 + 1) (2 ^ 32 - 1) ≡ suc area.0 = omega (arith, fits) in (
      omega (arith, fits),
      rw one_above (rw
          (ne_eqb (suc area.0) 0 (λ zero. omega (arith, zero)), area_before area) refl),
    )

cluster_numbers : (entry : CatEntry) → is_cluster entry ≡ true → Numbers entry
cluster_numbers entry is =
    let keys = keys_fit entry.kind entry.key_length entry.key_offset (grind (arith, and_parts)) in
    let space = space_fits entry.space entry.primary entry.secondary (grind (arith, and_parts)) in
    let related = none_related entry.related (grind (arith, and_parts)) in
    record {
      key_length = keys.0;
      key_offset = keys.1;
      primary = space.0;
      secondary = space.1;
      related_fits = related.0;
      related_read = related.1;
      average = grind (arith, nat_tests, and_parts);
      maximum = grind (arith, nat_tests, and_parts);
      interval_size = grind (arith, nat_tests, and_parts);
      storage = grind (arith, and_parts);
      data_class = grind (arith, and_parts);
      management = grind (arith, and_parts);
    }

alternate_numbers : (entry : CatEntry) → is_alternate entry ≡ true → Numbers entry
alternate_numbers entry is =
    let space = space_fits entry.space entry.primary entry.secondary (grind (arith, and_parts)) in
    let related = some_related entry.related (grind (arith, and_parts)) in
    record {
      key_length = grind (arith, nat_tests, and_parts);
      key_offset = grind (arith, nat_tests, and_parts);
      primary = space.0;
      secondary = space.1;
      related_fits = related.0;
      related_read = related.1;
      average = grind (arith, nat_tests, and_parts);
      maximum = grind (arith, nat_tests, and_parts);
      interval_size = grind (arith, nat_tests, and_parts);
      storage = grind (arith, and_parts);
      data_class = grind (arith, and_parts);
      management = grind (arith, and_parts);
    }

none_class : (class : Option (List ℕ)) → is_none class ≡ true → is_class_or_none class ≡ true
none_class None is = refl
none_class (Some text) is = absurd (cc)

path_numbers : (entry : CatEntry) → is_path entry ≡ true → Numbers entry
path_numbers entry is =
    let space = space_fits entry.space entry.primary entry.secondary (grind (arith, and_parts)) in
    let related = some_related entry.related (grind (arith, and_parts)) in
    record {
      key_length = grind (arith, nat_tests, and_parts);
      key_offset = grind (arith, nat_tests, and_parts);
      primary = space.0;
      secondary = space.1;
      related_fits = related.0;
      related_read = related.1;
      average = grind (arith, nat_tests, and_parts);
      maximum = grind (arith, nat_tests, and_parts);
      interval_size = grind (arith, nat_tests, and_parts);
      storage = none_class entry.storage_class (grind (arith, and_parts));
      data_class = none_class entry.data_class (grind (arith, and_parts));
      management = none_class entry.management_class (grind (arith, and_parts));
    }

pub numbers : (kind : EntryKind) (entry : CatEntry) → is_of_kind kind entry ≡ true → Numbers entry
numbers Cluster entry is = cluster_numbers entry is
numbers Alternate entry is = alternate_numbers entry is
numbers Path entry is = path_numbers entry is

-- ---- the fields of a record

-- all fields, in order
abbrev all_fields : CatEntry → List (List ℕ)
all_fields entry = kind_fields entry ++
    (part_fields entry ++ (space_fields entry ++ name_fields entry))

spelling_fields : (entry : CatEntry) → spelling entry ≡ concat (all_fields entry)
unfolding spelling
spelling_fields entry = simp append_assoc

-- the i-th field stands at its place
field_at : (entry : CatEntry) (i at size : ℕ) → i < 19
    → length (concat (take i (all_fields entry))) ≡ at
    → length (get_or (all_fields entry) i []) ≡ size →
    take size (drop at (spelling entry)) ≡ get_or (all_fields entry) i []
field_at entry i at size within before long =
    subst (λ n. take n (drop at (spelling entry)) ≡ get_or (all_fields entry) i []) long
    (subst (λ m. take (length (get_or (all_fields entry) i [])) (drop m (spelling entry)) ≡ get_or
    (all_fields entry) i []) before
    (subst (λ bytes. take (length (get_or (all_fields entry) i []))
    (drop (length (concat (take i (all_fields entry)))) bytes) ≡ get_or (all_fields entry) i [])
    (sym (spelling_fields entry))
    (field_of_concat (all_fields entry) i (omega (arith, within)))))

-- a byte of a field
byte_of : (bytes field : List ℕ) (at size i j : ℕ) → take size (drop at bytes) ≡ field → i < size
    → at + i ≡ j → slice_index bytes j ≡ slice_index field i
byte_of bytes field at size i j same within stands =
    subst (λ k. slice_index bytes k ≡ slice_index field i) stands
    (sym (get_or-drop at bytes i 0) ∙ sym (get_or-take size (drop at bytes) i 0 within)
    ∙ ap (λ part. slice_index part i) same)

-- a number of a field
four_of : (bytes : List ℕ) (at n : ℕ) → take 4 (drop at bytes) ≡ four n → n < 2 ^ 32
    → four_at at bytes ≡ n
unfolding four_at four
four_of bytes at n same fits = rw same (from_be_bytes-to_be_bytes_4 n fits)

two_of : (bytes : List ℕ) (at n : ℕ) → take 2 (drop at bytes) ≡ two n → n < 2 ^ 16
    → two_at at bytes ≡ n
unfolding two_at two
two_of bytes at n same fits = rw same (from_be_bytes-to_be_bytes_2 n fits)

-- a name of a field
name_of : (bytes : List ℕ) (at size : ℕ) (text : List ℕ)
    → take size (drop at bytes) ≡ padded size text → is_name text ≡ true → length text ≤ size
    → text_at at size bytes ≡ text
unfolding text_at
name_of bytes at size text same is fits = rw same (text_read size text fits (name_plain text is))

some_of : (text : List ℕ) → is_name text ≡ true → some_text text ≡ Some text
some_of text is = rw (ne_eqb (length text) 0 (λ zero. omega (arith, zero, name_some text is))) refl

no_name_of : (bytes : List ℕ) (at size : ℕ) → take size (drop at bytes) ≡ padded size []
    → text_at at size bytes ≡ []
unfolding text_at
no_name_of bytes at size same = rw same
    (text_read size [] (omega arith) (λ i within. absurd (omega (arith, within))))

name_or_none_of : (bytes : List ℕ) (at size : ℕ) (name : Option (List ℕ))
    → take size (drop at bytes) ≡ padded size (text_of name) → is_name_or_none name ≡ true
    → length (text_of name) ≤ size →
    some_text (text_at at size bytes) ≡ name
name_or_none_of bytes at size None same is fits = ap some_text (no_name_of bytes at size same)
name_or_none_of bytes at size (Some text) same is fits =
    ap some_text (name_of bytes at size text same is fits) ∙ some_of text is

class_fits : (class : Option (List ℕ)) → is_name_or_none class ≡ true
    → is_class_or_none class ≡ true → length (text_of class) ≤ 8
class_fits None named is = omega arith
class_fits (Some text) named is = class_short text named
    (not-true (list_any (λ byte. byte == 46) text) is)

name_fits : (name : Option (List ℕ)) → is_name_or_none name ≡ true → length (text_of name) ≤ 44
name_fits None is = omega arith
name_fits (Some text) is = name_short text is

-- each part of the entry is read from its field
module _ (entry : CatEntry) where
  number_at : (i at n : ℕ) → i < 19 → length (concat (take i (all_fields entry))) ≡ at
      → get_or (all_fields entry) i [] ≡ four n → n < 2 ^ 32 → four_at at (spelling entry) ≡ n
  number_at i at n within before is fits =
      four_of (spelling entry) at n (field_at entry i at 4 within before
      (ap length is ∙ length-four n) ∙ is) fits

  short_at : (i at n : ℕ) → i < 19 → length (concat (take i (all_fields entry))) ≡ at
      → get_or (all_fields entry) i [] ≡ two n → n < 2 ^ 16 → two_at at (spelling entry) ≡ n
  short_at i at n within before is fits =
      two_of (spelling entry) at n (field_at entry i at 2 within before
      (ap length is ∙ length-two n) ∙ is) fits

  byte_at : (i at j k byte : ℕ) → i < 19 → length (concat (take i (all_fields entry))) ≡ at
      → length (get_or (all_fields entry) i []) ≡ 4 → j < 4 → at + j ≡ k
      → slice_index (get_or (all_fields entry) i []) j ≡ byte
      → slice_index (spelling entry) k ≡ byte
  byte_at i at j k byte within before long below stands is =
      byte_of (spelling entry) (get_or (all_fields entry) i []) at 4 j k
      (field_at entry i at 4 within before long) below stands ∙ is

  text_place : (i at size : ℕ) (name : Option (List ℕ)) → i < 19
      → length (concat (take i (all_fields entry))) ≡ at
      → get_or (all_fields entry) i [] ≡ padded size (text_of name) → is_name_or_none name ≡ true
      → length (text_of name) ≤ size →
      some_text (text_at at size (spelling entry)) ≡ name
  text_place i at size name within before is named fits =
      name_or_none_of (spelling entry) at size name
      (field_at entry i at size within before
      (ap length is ∙ length-padded size (text_of name)) ∙ is) named fits

-- the names of an entry are names
record Named (entry : CatEntry) : Type 0 where
  name : is_name entry.name ≡ true
  data_name : is_name_or_none entry.data_name ≡ true
  index_name : is_name_or_none entry.index_name ≡ true
  storage : is_name_or_none entry.storage_class ≡ true
  data_class : is_name_or_none entry.data_class ≡ true
  management : is_name_or_none entry.management_class ≡ true

named : (entry : CatEntry) → are_names entry ≡ true → Named entry
named entry is = record {
  name = grind (arith, and_parts);
  data_name = grind (arith, and_parts);
  index_name = grind (arith, and_parts);
  storage = grind (arith, and_parts);
  data_class = grind (arith, and_parts);
  management = grind (arith, and_parts);
}

entry_parts : (entry : CatEntry) → is_entry entry ≡ true
    → (are_names entry ≡ true) × (is_allowed entry ≡ true)
unfolding is_entry
entry_parts entry is = and_parts (are_names entry) (is_allowed entry) is

part_fits : (entry : CatEntry) → is_allowed entry ≡ true → entry.part.0 < 2 ^ 32
part_fits entry is = grind (arith, nat_tests, and_parts)

area_stands : (entry : CatEntry) → is_allowed entry ≡ true → is_area_or_none entry.first_area ≡ true
area_stands entry is =
    (and_parts (is_part entry.part) (is_area_or_none entry.first_area)
    (and_parts (is_part entry.part && is_area_or_none entry.first_area)
    (is_of_kind entry.entry_kind entry) is).0).1

kind_stands : (entry : CatEntry) → is_allowed entry ≡ true
    → is_of_kind entry.entry_kind entry ≡ true
kind_stands entry is =
    (and_parts (is_part entry.part && is_area_or_none entry.first_area)
    (is_of_kind entry.entry_kind entry) is).1

-- an entry is read back from its record
pub entry_read : (entry : CatEntry) → IsTrue (is_entry entry) → entry_in (spelling entry) ≡ entry
unfolding entry_in
entry_read entry is =
    let parts = entry_parts entry is in
    let texts = named entry parts.0 in
    let fits = numbers entry.entry_kind entry (kind_stands entry parts.1) in
    let area = area_read entry.first_area (area_stands entry parts.1) in
    let flags = flags_read entry.spanned entry.unique entry.built in
    let flag : slice_index (spelling entry) 46 ≡ flag_byte entry =
    byte_at entry 1 44 2 46 (flag_byte entry) (omega arith)
    (simp (length-append, length-padded)) refl (omega arith) refl refl in
    let name : text_at 0 44 (spelling entry) ≡ entry.name =
    name_of (spelling entry) 0 44 entry.name
    (field_at entry 0 0 44 (omega arith) refl (length-padded 44 entry.name)) texts.name
    (name_short entry.name texts.name) in
    let entry_kind : entry_kind_of (slice_index (spelling entry) 44) ≡ entry.entry_kind =
    ap entry_kind_of (byte_at entry 1 44 0 44 (entry_kind_byte entry.entry_kind) (omega arith)
    (simp (length-append, length-padded)) refl (omega arith) refl refl)
    ∙ kind_read entry.entry_kind in
    let kind : kind_of (slice_index (spelling entry) 45) ≡ entry.kind =
    ap kind_of (byte_at entry 1 44 1 45 (kind_byte entry.kind) (omega arith)
    (simp (length-append, length-padded)) refl (omega arith) refl refl)
    ∙ organisation_read entry.kind in
    let spanned : (bit_and (slice_index (spelling entry) 46) 1 == 1) ≡ entry.spanned =
    ap (λ byte. bit_and byte 1 == 1) flag ∙ flags.0 in
    let unique : (bit_and (slice_index (spelling entry) 46) 2 == 2) ≡ entry.unique =
    ap (λ byte. bit_and byte 2 == 2) flag ∙ flags.1 in
    let built : (bit_and (slice_index (spelling entry) 46) 4 == 4) ≡ entry.built =
    ap (λ byte. bit_and byte 4 == 4) flag ∙ flags.2 in
    let part : four_at 48 (spelling entry) ≡ entry.part.0 =
    number_at entry 2 48 entry.part.0 (omega arith) (simp (length-append, length-padded)) refl
    (part_fits entry parts.1) in
    let related : part_of (four_at 52 (spelling entry)) ≡ entry.related =
    ap part_of (number_at entry 3 52 (part_field entry.related) (omega arith)
    (simp (length-append, length-padded, length-four)) refl fits.related_fits)
    ∙ fits.related_read in
    let key_length : two_at 56 (spelling entry) ≡ entry.key_length =
    short_at entry 4 56 entry.key_length (omega arith)
    (simp (length-append, length-padded, length-four)) refl fits.key_length in
    let key_offset : two_at 58 (spelling entry) ≡ entry.key_offset =
    short_at entry 5 58 entry.key_offset (omega arith)
    (simp (length-append, length-padded, length-four, length-two)) refl fits.key_offset in
    let average : four_at 60 (spelling entry) ≡ entry.average =
    number_at entry 6 60 entry.average (omega arith)
    (simp (length-append, length-padded, length-four, length-two)) refl fits.average in
    let maximum : four_at 64 (spelling entry) ≡ entry.maximum =
    number_at entry 7 64 entry.maximum (omega arith)
    (simp (length-append, length-padded, length-four, length-two)) refl fits.maximum in
    let first_area : area_of (four_at 68 (spelling entry)) ≡ entry.first_area =
    ap area_of (number_at entry 8 68 (area_field entry.first_area) (omega arith)
    (simp (length-append, length-padded, length-four, length-two)) refl area.0) ∙ area.1 in
    let interval : slice_index (spelling entry) 72 ≡ entry.free_space.interval =
    byte_at entry 9 72 0 72 entry.free_space.interval (omega arith)
    (simp (length-append, length-padded, length-four, length-two)) refl
    (omega arith) refl refl in
    let free_area : slice_index (spelling entry) 73 ≡ entry.free_space.area =
    byte_at entry 9 72 1 73 entry.free_space.area (omega arith)
    (simp (length-append, length-padded, length-four, length-two)) refl
    (omega arith) refl refl in
    let regions : slice_index (spelling entry) 74 ≡ entry.share_options.regions =
    byte_at entry 9 72 2 74 entry.share_options.regions (omega arith)
    (simp (length-append, length-padded, length-four, length-two)) refl
    (omega arith) refl refl in
    let systems : slice_index (spelling entry) 75 ≡ entry.share_options.systems =
    byte_at entry 9 72 3 75 entry.share_options.systems (omega arith)
    (simp (length-append, length-padded, length-four, length-two)) refl
    (omega arith) refl refl in
    let space : space_of (slice_index (spelling entry) 76) ≡ entry.space =
    ap space_of (byte_at entry 10 76 0 76 (space_byte entry.space) (omega arith)
    (simp (length-append, length-padded, length-four, length-two)) refl
    (omega arith) refl refl) ∙ space_read entry.space in
    let primary : four_at 80 (spelling entry) ≡ entry.primary =
    number_at entry 11 80 entry.primary (omega arith)
    (simp (length-append, length-padded, length-four, length-two)) refl fits.primary in
    let secondary : four_at 84 (spelling entry) ≡ entry.secondary =
    number_at entry 12 84 entry.secondary (omega arith)
    (simp (length-append, length-padded, length-four, length-two)) refl fits.secondary in
    let interval_size : four_at 88 (spelling entry) ≡ entry.interval_size =
    number_at entry 13 88 entry.interval_size (omega arith)
    (simp (length-append, length-padded, length-four, length-two)) refl fits.interval_size in
    let data_name : some_text (text_at 92 44 (spelling entry)) ≡ entry.data_name =
    text_place entry 14 92 44 entry.data_name (omega arith)
    (simp (length-append, length-padded, length-four, length-two)) refl texts.data_name
    (name_fits entry.data_name texts.data_name) in
    let index_name : some_text (text_at 136 44 (spelling entry)) ≡ entry.index_name =
    text_place entry 15 136 44 entry.index_name (omega arith)
    (simp (length-append, length-padded, length-four, length-two)) refl texts.index_name
    (name_fits entry.index_name texts.index_name) in
    let storage : some_text (text_at 180 8 (spelling entry)) ≡ entry.storage_class =
    text_place entry 16 180 8 entry.storage_class (omega arith)
    (simp (length-append, length-padded, length-four, length-two)) refl texts.storage
    (class_fits entry.storage_class texts.storage fits.storage) in
    let data_class : some_text (text_at 188 8 (spelling entry)) ≡ entry.data_class =
    text_place entry 17 188 8 entry.data_class (omega arith)
    (simp (length-append, length-padded, length-four, length-two)) refl texts.data_class
    (class_fits entry.data_class texts.data_class fits.data_class) in
    let management : some_text (text_at 196 8 (spelling entry)) ≡ entry.management_class =
    text_place entry 18 196 8 entry.management_class (omega arith)
    (simp (length-append, length-padded, length-four, length-two)) refl texts.management
    (class_fits entry.management_class texts.management fits.management) in
    λ i. record {
      name = name i;
      entry_kind = entry_kind i;
      kind = kind i;
      spanned = spanned i;
      unique = unique i;
      built = built i;
      part = record { 0 = part i };
      related = related i;
      key_length = key_length i;
      key_offset = key_offset i;
      average = average i;
      maximum = maximum i;
      first_area = first_area i;
      free_space = record { interval = interval i; area = free_area i };
      share_options = record { regions = regions i; systems = systems i };
      space = space i;
      primary = primary i;
      secondary = secondary i;
      interval_size = interval_size i;
      data_name = data_name i;
      index_name = index_name i;
      storage_class = storage i;
      data_class = data_class i;
      management_class = management i;
    }
