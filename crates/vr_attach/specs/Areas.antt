-- The areas of a keyed part in memory: their numbers, where the ranges of each end, and how many
-- intervals their heads lead to. The rules are this project's own.
use Rattle.std.specs.Prelude.{◌≡◌, ◌<◌, ◌≤◌, ◌^◌, ◌++◌, ◌∷◌, [], ℕ, IsTrue, List, All, Contains}
use Rattle.std.specs.Prelude.{IfSome, Some, length, slice_get}
use Rattle.std.specs.Prelude.{drop, map, replicate, take}
use Rattle.std.specs.List.Sorted.{IsStrictlySortedBy}
use Rattle.std.specs.Ordering.{is_le}
use Rattle.std.specs.declared.cmp.Ordering.TheVariants.{Less}
use Rattle.vr_types.specs.Content.{place_cmp}
use Rattle.vr_types.specs.Geometry.{area_count}
use Rattle.vr_space.specs.Areas.{KeyedChain}
use Rattle.vr_space.specs.Moves.{with_area, with_end}
use Rattle.vr_attach.specs.declared.areas.AreaEnd.{AreaEnd}

-- the areas in the order of their chain, where each ends, and the count of the intervals of all
pub record AreasNow : Type 0 where
  pub part : KeyedChain
  pub areas : List ℕ
  pub ends : List (List ℕ)
  pub intervals : ℕ

-- the areas of entries, and their ends
abbrev pub areas_seen : List AreaEnd → List ℕ
areas_seen entries = map (λ (entry : AreaEnd). entry.area) entries

abbrev pub ends_seen : List AreaEnd → List (List ℕ)
ends_seen entries = map (λ (entry : AreaEnd). entry.end.place) entries

-- The first entries, this many, are used: areas of the volume, each of which ends before the next,
-- at a place of the part. There is an entry with room for a place for each area of the volume.
pub record AreEnds (part : KeyedChain) (entries : List AreaEnd) (used : ℕ) : Type 0 where
  pub within : used ≤ length entries
  pub count : length entries ≡ area_count part.geometry
  pub few : length entries < 2 ^ 32
  pub room : All (λ (entry : AreaEnd). entry.end.room ≡ part.key) entries
  pub there : All (λ (area : ℕ). area < area_count part.geometry) (areas_seen (take used entries))
  pub places : All (λ (end : List ℕ). length end ≡ part.key) (ends_seen (take used entries))
  pub ascend : IsStrictlySortedBy place_cmp (ends_seen (take used entries))

-- They are a whole chain: the first area of the part is among them, and the last goes up to the
-- greatest key.
pub record AreWhole (chain : AreasNow) : Type 0 where
  pub first : Contains chain.areas chain.part.first
  pub before : List (List ℕ)
  pub last : chain.ends ≡ before ++ replicate chain.part.key 255 ∷ []

-- this many of the areas end before the place, and the others at it or past it
pub record IsAreaPosition (ends : List (List ℕ)) (place : List ℕ) (n : ℕ) : Type 0 where
  pub within : n ≤ length ends
  pub before : All (λ (end : List ℕ). place_cmp end place ≡ Less) (take n ends)
  pub past : All (λ (end : List ℕ). IsTrue (is_le (place_cmp place end))) (drop n ends)

-- The place is one at which the ranges of this area may end: past where the area before it ends,
-- and before where it ends itself. There is room for one area more.
pub record IsCut (chain : AreasNow) (area : ℕ) (cut : List ℕ) : Type 0 where
  pub long : length cut ≡ chain.part.key
  pub at : ℕ
  pub position : IsAreaPosition chain.ends cut at
  pub is : slice_get chain.areas at ≡ Some area
  pub first : Contains (take at chain.areas) area → ⊥
  pub before : IfSome (slice_get chain.ends at) (λ end. place_cmp cut end ≡ Less)
  pub room : length chain.areas < area_count chain.part.geometry

-- the chain with one area more, after this one, which ends at the cut from then on
abbrev pub with_cut : AreasNow → ℕ → ℕ → List ℕ → AreasNow
with_cut chain area into cut = record chain {
  areas = with_area area into chain.areas;
  ends = with_end area cut chain.areas chain.ends;
}
