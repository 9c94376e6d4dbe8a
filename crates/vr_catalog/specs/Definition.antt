-- Which records a cluster allows, as DEFINE CLUSTER of Access Method Services Commands states it. A
-- definition has INDEXED,
-- NONINDEXED or NUMBERED; SPANNED; KEYS(length offset) and the maximum of RECORDSIZE, in bytes.
use Rattle.std.specs.Prelude.{ℕ, ◌+◌, Bool, false, ◌==◌, ◌&&◌, nat_le, List, length, take, drop}
use Rattle.vr_types.specs.declared.unit.Kind.{Kind}
pub use Rattle.vr_catalog.specs.declared.definition.Definition.{Definition}
use Rattle.vr_types.specs.declared.unit.Kind.TheVariants.{Keyed, Entry, Relative}

-- the key of a record, as KEYS places it
abbrev pub key_of : Definition → List ℕ → List ℕ
key_of definition bytes = take definition.key_length (drop definition.key_offset bytes)

-- the lengths that records of each kind may have: a keyed record reaches to the end of its key
abbrev pub is_valid_length : Kind → Definition → ℕ → Bool
is_valid_length Keyed definition size =
    nat_le (definition.key_offset + definition.key_length) size && nat_le size definition.maximum
is_valid_length Entry definition size = nat_le 1 size && nat_le size definition.maximum
is_valid_length Relative definition size = size == definition.maximum

-- a record is valid by its length alone, as Using Data Sets says it of the three kinds
abbrev pub is_valid_record : Definition → List ℕ → Bool
is_valid_record definition bytes = is_valid_length definition.kind definition (length bytes)

-- VRM.FIRST: INDEXED KEYS(8 0) RECORDSIZE(80 80). The data set is this project's own
abbrev pub first_definition : Definition
first_definition = record {
  kind = Keyed;
  spanned = false;
  key_length = 8;
  key_offset =
      0;
  maximum = 80;
}

-- the catalog, part 0: records of 204 bytes that begin with a name of 44. This project's own
abbrev pub catalog_definition : Definition
catalog_definition = record {
  kind = Keyed;
  spanned = false;
  key_length = 44;
  key_offset =
      0;
  maximum = 204;
}
