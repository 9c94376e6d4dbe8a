-- A part without records by its kind: what its first area has, and what it keeps in memory of it.
-- The rules are this project's own.
use Rattle.std.specs.Prelude.{◌+◌, ◌≤◌, ℕ, [], ◌∷◌, None, replicate}
use Rattle.vr_types.specs.Geometry.{head_block}
use Rattle.vr_types.specs.Seen.{Seen}
use Rattle.vr_types.specs.declared.geometry.Geometry.{Geometry}
use Rattle.vr_space.specs.Areas.{area_of}
use Rattle.vr_space.specs.Known.{Known}
use Rattle.vr_space.specs.Part.{KeyedShape, NumberedShape, Shape}
use Rattle.vr_part.specs.First.{IsFirstArea, IsFirstRoster}

-- its first area is written, and a crash leaves it alone
abbrev pub IsFirst : Shape → Seen → Type 0
IsFirst (KeyedShape part) now = IsFirstArea (area_of part part.first) now
IsFirst (NumberedShape part) now = IsFirstRoster part now

-- what it keeps in memory: that area alone, whose ranges go up to the greatest key, and whose head
-- leads to one interval; it has met nothing, and may keep two places
abbrev pub known_first : Shape → Known
known_first (KeyedShape part) = record {
  split = None;
  move = None;
  met = [];
  most = 2;
  areas = part.first ∷ [];
  ends = replicate part.key 255 ∷ [];
  used = 1;
  tail = None;
}
-- or no interval of which is used
known_first (NumberedShape part) = record {
  split = None;
  move = None;
  met = [];
  most = 2;
  areas = part.first ∷ [];
  ends = [];
  used = 0;
  tail = None;
}

-- the blocks of an area
abbrev pub InAreaAt : Geometry → ℕ → ℕ → Type 0
InAreaAt geometry area n =
    (head_block geometry area ≤ n) × (n ≤ head_block geometry area + geometry.area)
