-- Which part each block of a volume is of, by who owns its areas, and who owns them once a part
-- got one more. The header and the log are of none. The rules are this project's own.
use Rattle.std.specs.Prelude.{◌≡◌, ℕ, ◌+◌, ◌-◌, ◌/◌, ◌<◌, nat_le, List, Option, Some, None}
use Rattle.std.specs.Prelude.{if◌then◌else◌, slice_index_or, slice_set}
use Rattle.std.specs.Option.{option_map}
use Rattle.vr_types.specs.Space.{least_free}
use Rattle.vr_types.specs.declared.geometry.Geometry.{Geometry}
use Rattle.vr_types.specs.declared.unit.PartNo.{PartNo}
use Rattle.vr_space.specs.Owners.{Owners}

-- the owner of the area that a block is in
abbrev pub owner_of : Geometry → List (Option PartNo) → Owners
owner_of geometry areas n =
    if nat_le n geometry.log then None
    else option_map (λ (part : PartNo). part.0)
    (slice_index_or areas ((n - 1 - geometry.log) / (geometry.area + 1)) None)

-- the blocks that are of a part are past the log
abbrev pub IsPastLog : Geometry → Owners → Type 0
IsPastLog geometry owners = (n part : ℕ) → owners n ≡ Some part → geometry.log < n

-- the areas once the part got this one, where it got one
abbrev pub claimed_at : PartNo → List (Option PartNo) → Option ℕ → List (Option PartNo)
claimed_at part areas None = areas
claimed_at part areas (Some area) = slice_set areas area (Some part)

-- the areas once the part got the least free one, where one is free
abbrev pub claimed_by : PartNo → List (Option PartNo) → List (Option PartNo)
claimed_by part areas = claimed_at part areas (least_free areas)
