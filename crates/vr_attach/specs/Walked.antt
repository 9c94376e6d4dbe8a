-- A walk over the areas of a keyed part, from the first one on: what it found so far, which areas
-- are marked as the part's, and how it ends. The rules are this project's own.
use Rattle.std.specs.Prelude.{◌≡◌, ℕ, suc, ◌+◌, ◌*◌, ◌<◌, ◌≤◌, List, [], ◌∷◌, ◌++◌, length, map}
use Rattle.std.specs.Prelude.{replicate}
use Rattle.std.specs.Prelude.{Option, Some, None}
use Rattle.std.specs.List.{last_or}
use Rattle.std.specs.List.Sorted.{IsStrictlySortedBy}
use Rattle.vr_types.specs.Content.{place_cmp}
use Rattle.vr_types.specs.Geometry.{area_count}
use Rattle.vr_types.specs.Image.{Block, Image}
use Rattle.vr_types.specs.Space.{free_count}
use Rattle.vr_types.specs.declared.unit.PartNo.{PartNo}
use Rattle.vr_space.specs.Areas.{KnowsAreas, LinksIn, areas_after, areas_in, end_of, head_in}
use Rattle.vr_space.specs.Areas.{intervals_in, intervals_over}
use Rattle.vr_space.specs.Keyed.{entries_of}
use Rattle.vr_space.specs.Part.{KeyedShape, part_no}
use Rattle.vr_attach.specs.Areas.{AreasNow}
use Rattle.vr_attach.specs.Linked.{IsLinkedTo, links_after, links_in}
use Rattle.vr_attach.specs.Marked.{AreMarked}

-- ---- the areas in memory

-- where the ranges of the area after these are to begin: nowhere, if it is the first
abbrev pub low_after : List (List ℕ) → Option (List ℕ)
low_after ends = last_or None ends

-- There is room for one of the volume's areas more, and the ends ascend so far.
pub record HasRoomFor (now : AreasNow) (area : ℕ) : Type 0 where
  pub there : area < area_count now.part.geometry
  pub room : length now.areas < area_count now.part.geometry
  pub ascend : IsStrictlySortedBy place_cmp now.ends

-- The area was added after the last one, with the end of the ranges of its head and its intervals.
pub record IsAdded (top : Block) (area : ℕ) (old new : AreasNow) : Type 0 where
  pub end : List ℕ
  pub end_is : end_of top ≡ Some end
  pub new_is : new ≡ record {
    part = old.part;
    areas = old.areas ++ area ∷ [];
    ends = old.ends ++ end ∷ [];
    intervals = old.intervals + length (entries_of top);
  }

-- There is room for the area that the walk came to, and for each that is free; and there are at
-- most as many intervals as so many areas may have.
pub record IsOpen (now : AreasNow) (area : ℕ) (taken : List (Option PartNo)) : Type 0 where
  pub ready : HasRoomFor now area
  pub few : now.intervals ≤ length now.areas * 255
  pub count : length taken ≡ area_count now.part.geometry
  pub room : length now.areas + 1 + free_count taken ≤ area_count now.part.geometry

-- the last of these areas ends at the greatest place
pub record EndsGreatest (now : AreasNow) : Type 0 where
  pub before : List (List ℕ)
  pub last : now.ends ≡ before ++ replicate now.part.key 255 ∷ []

-- ---- the areas that are marked

-- those that were added are, and the one that the walk came to, if there is one
abbrev pub AreMarkedTo : List (Option PartNo) → List (Option PartNo) → AreasNow → Option ℕ → Type 0
AreMarkedTo old new now None =
    AreMarked (part_no (KeyedShape now.part)) now.part.first now.areas old new
AreMarkedTo old new now (Some area) =
    AreMarked (part_no (KeyedShape now.part)) now.part.first (now.areas ++ area ∷ []) old new

-- ---- the walk

-- The walk came to the area: those that were added are the first of the chain of the image, with
-- the ends of their heads and their intervals, and break no rule; and so the image has a chain,
-- where it goes on from this one.
pub record IsWalkedAt (Taken : ℕ → Type 0) (image : Image) (now : AreasNow) (area : ℕ) : Type 0
  where
    pub left : ℕ
    pub many : length now.areas + suc left ≡ area_count now.part.geometry
    pub areas : areas_in now.part image
        ≡ now.areas ++ areas_after now.part image (suc left) area
    pub ends : map Some now.ends ≡ map (λ one. end_of (head_in now.part image one)) now.areas
    pub counted : now.intervals ≡ intervals_over now.part image now.areas
    pub before : List (ℕ × Option (List ℕ))
    pub links : links_in now.part image
        ≡ before ++ links_after now.part image (suc left) area (low_after now.ends)
    pub as_many : length before ≡ length now.areas
    pub walked : IsLinkedTo now.part Taken image (length now.areas)
    pub goes : LinksIn now.part image (suc left) area (low_after now.ends)
        → LinksIn now.part image (area_count now.part.geometry) now.part.first None

-- The walk came to the end of the chain.
pub record IsWalkedOver (image : Image) (now : AreasNow) : Type 0 where
  pub chain : LinksIn now.part image (area_count now.part.geometry) now.part.first None
  pub knows : KnowsAreas now.part now.areas now.ends image
  pub counted : now.intervals ≡ intervals_in now.part image

-- whether there is an area more
abbrev pub IsWalkedBy : (ℕ → Type 0) → Image → AreasNow → Option ℕ → Type 0
IsWalkedBy Taken image now None = IsWalkedOver image now
IsWalkedBy Taken image now (Some area) = IsWalkedAt Taken image now area
