-- The chain of areas of a part as it is kept in memory. The rules are this project's own.
use Rattle.std.specs.Prelude.{◌≡◌, ℕ, ◌<◌, ◌≤◌, ◌*◌, ◌-◌, List, All, length}
use Rattle.vr_types.specs.Geometry.{area_count}
use Rattle.vr_types.specs.Image.{Image}
use Rattle.vr_space.specs.Entries.{Tail}
use Rattle.vr_space.specs.Rosters.{IsNumbered, Numbered, chain_of, used_of}

-- where the part is, the areas of its chain in their order, and how many of their intervals are
-- used
pub record ChainNow : Type 0 where
  pub part : Numbered
  pub areas : List ℕ
  pub used : ℕ

-- There is an area at least, each is one of the volume, and they have the intervals that are used.
pub record IsChainNow (part : Numbered) (areas : List ℕ) (used : ℕ) : Type 0 where
  pub part_is : IsNumbered part
  pub some : 0 < length areas
  pub few : length areas ≤ area_count part.geometry
  pub each : All (λ area. area < area_count part.geometry) areas
  pub within : used ≤ length areas * part.geometry.area

-- it is the chain that the blocks have
pub record IsChainOf (chain : ChainNow) (image : Image) : Type 0 where
  pub areas : chain.areas ≡ chain_of chain.part image
  pub used : chain.used ≡ used_of chain.part image

-- A tail that the chain may have: it is in a used interval, of which it takes no more than there
-- is.
pub record IsTailIn (chain : ChainNow) (tail : Tail) : Type 0 where
  pub used : tail.interval < chain.used
  pub bytes : tail.bytes ≤ tail.room
  pub room : tail.room ≤ chain.part.geometry.size - 4
