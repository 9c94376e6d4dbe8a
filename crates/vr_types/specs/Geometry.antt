-- The shape of a volume: block 0, the blocks of the log, and then the areas, each a head block and
-- its intervals, which are one block each. What the areas leave over is not used. The rules are
-- this project's own.
use Rattle.std.specs.Prelude.{ℕ, ◌+◌, ◌-◌, ◌*◌, ◌/◌, ◌^◌, ◌≤◌}
use Rattle.vr_types.specs.BlockSize.{IsBlockSize}
use Rattle.vr_types.specs.declared.geometry.Geometry.{Geometry}

-- how many areas there are; they are numbered from 0
abbrev pub area_count : Geometry → ℕ
area_count geometry = (geometry.blocks - 1 - geometry.log) / (geometry.area + 1)

-- the block that an area begins with, its head
abbrev pub head_block : Geometry → ℕ → ℕ
head_block geometry area = 1 + geometry.log + area * (geometry.area + 1)

-- A volume may be formatted so: it has the log and two areas at least, and at most 2^31 bytes.
pub record IsAllowed (geometry : Geometry) : Type 0 where
  pub size : IsBlockSize geometry.size
  pub some_log : 1 ≤ geometry.log
  pub most_log : geometry.log ≤ 65535
  pub some_intervals : 2 ≤ geometry.area
  pub most_intervals : geometry.area ≤ 255
  pub two_areas : 1 + geometry.log + 2 * (geometry.area + 1) ≤ geometry.blocks
  pub bytes : geometry.size * geometry.blocks ≤ 2 ^ 31
