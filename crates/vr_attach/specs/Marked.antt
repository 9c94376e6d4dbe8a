-- Which areas a walk over a chain marks as its part's. The rules are this project's own.
use Rattle.std.specs.Prelude.{◌≡◌, ◌≢◌, ℕ, List, length, Option, Some, None, Contains}
use Rattle.std.specs.Prelude.{slice_index_or}
use Rattle.vr_types.specs.declared.unit.PartNo.{PartNo}
use Rattle.vr_space.specs.Part.{owned_count}

-- the area has an owner
abbrev pub IsTakenIn : List (Option PartNo) → ℕ → Type 0
IsTakenIn taken area = slice_index_or taken area None ≢ None

-- The areas that a walk came to, from the first one on, are marked as the part's, which owns no
-- other; each of them but the first was free.
pub record AreMarked (part : PartNo) (first : ℕ) (areas : List ℕ) (old new : List (Option PartNo))
    : Type 0 where
  pub there : Contains areas first
  pub owns : owned_count part new ≡ length areas
  pub marked : (area : ℕ) → Contains areas area → slice_index_or new area None ≡ Some part
  pub others : (area : ℕ) → (Contains areas area → ⊥)
      → slice_index_or new area None ≡ slice_index_or old area None
  pub free : (area : ℕ) → Contains areas area → area ≢ first → slice_index_or old area None ≡ None
