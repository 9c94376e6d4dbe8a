-- The bytes of the undo log that records of it take. The rules are this project's own.
use Rattle.std.specs.Prelude.{ℕ, ◌+◌, ◌-◌, ◌*◌, ◌<◌, List, length, Option, Some, None}
use Rattle.vr_types.specs.declared.geometry.Geometry.{Geometry}

-- a before-image: 20 bytes, the place, and the old record where there was one
abbrev pub before_length : List ℕ → Option (List ℕ) → ℕ
before_length place None = 20 + length place
before_length place (Some bytes) = 20 + length place + length bytes

-- the record that ends a unit of recovery, for which room is kept from the unit's first change on
abbrev pub end_length : ℕ
end_length = 9

-- the bytes that the log has: those of its blocks without their heads of 16 bytes
abbrev pub log_size : Geometry → ℕ
log_size geometry = geometry.log * (geometry.size - 16)

-- the log has no room for what a request needs, where that much of it is in use
abbrev pub IsLogFull : Geometry → ℕ → ℕ → Type 0
IsLogFull geometry used need = log_size geometry < used + need
