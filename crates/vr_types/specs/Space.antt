-- Who owns each area of a volume: a part, or none where the area is free. That a claim takes the
-- least free area is this project's own rule.
use Rattle.std.specs.Prelude.{ℕ, ◌==◌, Bool, true, false, cond, List, length, filter, map}
use Rattle.std.specs.Prelude.{replicate, Option, Some, None}
use Rattle.std.specs.List.{position}
use Rattle.std.specs.Option.{is_none}
use Rattle.vr_types.specs.declared.unit.PartNo.{PartNo}

-- a part owns an area
abbrev pub is_owner : PartNo → Option PartNo → Bool
is_owner part None = false
is_owner part (Some owner) = owner.0 == part.0

-- the areas of a volume, each of them free
abbrev pub all_free : ℕ → List (Option PartNo)
all_free areas = replicate areas None

-- the least area that is free, where one is
abbrev pub least_free : List (Option PartNo) → Option ℕ
least_free owners = position is_none owners

-- how many areas are free
abbrev pub free_count : List (Option PartNo) → ℕ
free_count owners = length (filter is_none owners)

-- the areas of a part become free
abbrev pub freed : PartNo → Option PartNo → Option PartNo
freed part owner = cond (is_owner part owner) None owner

abbrev pub released : PartNo → List (Option PartNo) → List (Option PartNo)
released part owners = map (freed part) owners
