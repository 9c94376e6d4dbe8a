-- Of which clusters a part without records may be written. The rules are this project's own.
use Rattle.std.specs.Prelude.{◌<◌, ◌≤◌, ◌+◌}
use Rattle.vr_types.specs.declared.geometry.Geometry.{Geometry}
use Rattle.vr_types.specs.declared.unit.Kind.{Kind}
use Rattle.vr_types.specs.declared.unit.Kind.TheVariants.{Keyed, Entry, Relative}
use Rattle.vr_catalog.specs.Limits.{intervals_used}
use Rattle.vr_catalog.specs.declared.definition.Definition.{Definition}

-- A key-sequenced one has keys of at most 255 bytes, and the head of its first area has room for an
-- entry.
pub record HasFirstHead (geometry : Geometry) (definition : Definition) : Type 0 where
  pub key : 0 < definition.key_length
  pub short : definition.key_length ≤ 255
  pub used : 0 < intervals_used geometry definition.key_length

-- what a new part of each kind has to have; the others need nothing but a roster
abbrev pub IsStartableAs : Geometry → Definition → Kind → Type 0
IsStartableAs geometry definition Keyed = HasFirstHead geometry definition
IsStartableAs geometry definition Entry = Unit {0}
IsStartableAs geometry definition Relative = Unit {0}

-- Records of the definition have a byte, one of the maximum has room in an interval of its own,
-- and a part of its kind may be written without any.
pub record IsStartable (geometry : Geometry) (definition : Definition) : Type 0 where
  pub some : 0 < definition.maximum
  pub fits : definition.maximum + 7 ≤ geometry.size
  pub organised : IsStartableAs geometry definition definition.kind
