-- The areas of an entry-sequenced or relative part: a chain of them, each with a roster, which says
-- how many of its control intervals are used and which area comes next (DFSMS Using Data Sets,
-- entry-sequenced and relative record data sets). How a crash may leave a chain is this project's
-- own rule.
use Rattle.std.specs.Prelude.{◌≡◌, ℕ, zero, suc, ◌+◌, ◌-◌, ◌<◌, ◌≤◌, List, [], ◌∷◌, length}
use Rattle.std.specs.Prelude.{◌⊎◌, Bool, Option, Some, None, nat_lt, if◌then◌else◌}
use Rattle.vr_types.specs.Geometry.{IsAllowed, area_count, head_block}
use Rattle.vr_types.specs.Image.{Block, Image, block_at}
use Rattle.vr_types.specs.declared.geometry.Geometry.{Geometry}
use Rattle.vr_seqset.specs.Roster.{IsRoster, Roster}
use Rattle.vr_seqset.specs.Reading.{roster_in}
use Rattle.vr_space.specs.Owners.{Owners}
use Rattle.vr_space.specs.Way.{Way, Found, Reads}

-- Where such a part is: its number, its first area, and the shape of its volume; how long its
-- records are at most; and whether it is a relative part, whose intervals have slots of this
-- length, or an entry-sequenced one, whose records have lengths of their own.
pub record Numbered : Type 0 where
  pub part : ℕ
  pub first : ℕ
  pub geometry : Geometry
  pub most : ℕ
  pub relative : Bool

-- there may be such a part: its first area is there, and a record fits into an interval
pub record IsNumbered (part : Numbered) : Type 0 where
  pub allowed : IsAllowed part.geometry
  pub first : part.first < area_count part.geometry
  pub some : 0 < part.most
  pub fits : part.most + 7 ≤ part.geometry.size

-- the block of an area's roster, and of one of its intervals
abbrev pub roster_block : Numbered → ℕ → ℕ
roster_block part area = head_block part.geometry area

abbrev pub interval_in : Numbered → ℕ → ℕ → ℕ
interval_in part area interval = head_block part.geometry area + 1 + interval

-- the blocks of an area
pub record IsInArea (part : Numbered) (area n : ℕ) : Type 0 where
  pub from : head_block part.geometry area ≤ n
  pub to : n ≤ head_block part.geometry area + part.geometry.area

-- an area of the volume, each block of which is the part's own
pub record IsOwnArea (part : Numbered) (owners : Owners) (area : ℕ) : Type 0 where
  pub there : area < area_count part.geometry
  pub owned : (n : ℕ) → IsInArea part area n → owners n ≡ Some part.part

-- the block is a roster of the part
pub record IsRosterOf (part : Numbered) (block : Block) : Type 0 where
  pub spelled : IsRoster part.geometry.area block (roster_in block)
  pub size : length block ≡ part.geometry.size
  pub number : (roster_in block).part ≡ part.part

-- ---- what a crash may leave of a chain

-- After an area of so many used intervals comes none, or one of which this is true, where it is
-- used whole.
abbrev pub IsNextOf : ℕ → ℕ → (ℕ → Type 0) → Option ℕ → Type 0
IsNextOf used whole After None = Unit {0}
IsNextOf used whole After (Some area) = (used ≡ whole) × After area

-- By this roster, each content that is allowed of a used interval of the area is one of those
-- meant, and so goes the chain on.
pub record IsChainedBy (part : Numbered) (Interval : Block → Type 0) (may : ℕ → Block → Type 0)
    (area : ℕ) (After : ℕ → Type 0) (top : Block) : Type 0 where
  pub roster : IsRosterOf part top
  pub intervals : (interval : ℕ) → interval < (roster_in top).used → (block : Block)
      → may (interval_in part area interval) block → Interval block
  pub next : IsNextOf (roster_in top).used part.geometry.area After (roster_in top).next

-- Whatever is allowed of the blocks, a chain of at most so many areas goes on from this one, in
-- areas of which Own is true.
abbrev pub Chains : Numbered → (ℕ → Type 0) → (Block → Type 0) → (ℕ → Block → Type 0) → ℕ → ℕ
    → Type 0
Chains part Own Interval may zero area = ⊥
Chains part Own Interval may (suc k) area =
    Own area
    × ((top : Block) → may (roster_block part area) top
    → IsChainedBy part Interval may area (Chains part Own Interval may k) top)

-- the same from the part's first area on
abbrev pub IsChained : Numbered → (ℕ → Type 0) → (Block → Type 0) → (ℕ → Block → Type 0) → Type 0
IsChained part Own Interval may =
    Chains part Own Interval may (area_count part.geometry) part.first

-- the content that an image has of each block
abbrev pub IsOf : Image → ℕ → Block → Type 0
IsOf image n block = block ≡ block_at image n

-- ---- the chain in an image

abbrev pub roster_at : Numbered → Image → ℕ → Roster
roster_at part image area = roster_in (block_at image (roster_block part area))

abbrev pub after_next : {X : Type 0} → X → (ℕ → X) → Option ℕ → X
after_next none after None = none
after_next none after (Some area) = after area

-- its areas, in their order, from one on
abbrev pub areas_from : Numbered → Image → ℕ → ℕ → List ℕ
areas_from part image zero area = []
areas_from part image (suc k) area =
    area ∷ after_next [] (areas_from part image k) (roster_at part image area).next

abbrev pub chain_of : Numbered → Image → List ℕ
chain_of part image = areas_from part image (area_count part.geometry) part.first

-- how many of their intervals are used
abbrev pub used_from : Numbered → Image → ℕ → ℕ → ℕ
used_from part image zero area = 0
used_from part image (suc k) area =
    (roster_at part image area).used
    + after_next 0 (used_from part image k) (roster_at part image area).next

abbrev pub used_of : Numbered → Image → ℕ
used_of part image = used_from part image (area_count part.geometry) part.first

-- ---- the way to an interval

-- what comes after the roster of an area: the interval of that number, counted from the area on, or
-- the way over the next area
abbrev pub way_by : Numbered → (ℕ → Way) → ℕ → ℕ → (ℕ → Way) → Roster → Way
way_by part reached n area after roster =
    if nat_lt n roster.used then reached (interval_in part area n)
    else after_next (Found None) after roster.next

-- The interval of that number is reached over the rosters before it; where the chain ends before
-- it, nothing is found.
abbrev pub chain_way : Numbered → (ℕ → Way) → ℕ → ℕ → ℕ → Way
chain_way part reached zero n area = Found None
chain_way part reached (suc k) n area =
    Reads (roster_block part area) (λ top. way_by part reached n area
    (chain_way part reached k (n - part.geometry.area)) (roster_in top))

-- from the part's first area on
abbrev pub interval_way : Numbered → (ℕ → Way) → ℕ → Way
interval_way part reached n =
    chain_way part reached (area_count part.geometry) n part.first

-- there is a next area, and this is true of it
abbrev pub IsGoingOn : (ℕ → Type 0) → Option ℕ → Type 0
IsGoingOn After None = ⊥
IsGoingOn After (Some area) = After area

-- Whatever is allowed of the rosters, the chain has the interval of that number, in the area that
-- has it; and what is allowed of this has what is meant.
abbrev pub HasInterval : Numbered → (Block → Type 0) → (ℕ → Block → Type 0) → ℕ → ℕ → ℕ → Type 0
HasInterval part Has may zero n area = ⊥
HasInterval part Has may (suc k) n area = (top : Block) → may (roster_block part area) top
    → ((n < (roster_in top).used)
    × ((block : Block) → may (interval_in part area n) block → Has block))
    ⊎ ((part.geometry.area ≤ n)
    × IsGoingOn (HasInterval part Has may k (n - part.geometry.area)) (roster_in top).next)
