-- The areas of a keyed part: a chain, each with a sequence-set record as its head, which says which
-- area comes next (DFSMS Using Data Sets, key-sequenced data sets: the sequence set). The ranges of
-- an area go on where those of the one before it end, and those of the last go up to the greatest
-- key. What a crash may leave of a chain is this project's own rule.
use Rattle.std.specs.Prelude.{◌≡◌, ℕ, zero, suc, ◌+◌, ◌<◌, ◌≤◌, Bool, false, List, [], ◌∷◌}
use Rattle.std.specs.Prelude.{◌++◌, Option, Some, None, IfSome, length, map, replicate}
use Rattle.std.specs.Prelude.{if◌then◌else◌}
use Rattle.std.specs.Ordering.{is_le}
use Rattle.vr_types.specs.Content.{Content, place_cmp}
use Rattle.vr_types.specs.Geometry.{IsAllowed, area_count, head_block}
use Rattle.vr_types.specs.Image.{Block, Image, block_at}
use Rattle.vr_types.specs.Seen.{Seen, Only}
use Rattle.vr_types.specs.declared.geometry.Geometry.{Geometry}
use Rattle.vr_seqset.specs.Reading.{record_in}
use Rattle.vr_space.specs.Owners.{Owners}
use Rattle.vr_space.specs.Way.{Way, Found, Reads}
use Rattle.vr_space.specs.Room.{Lengths}
use Rattle.vr_space.specs.Rosters.{IsOf, after_next}
use Rattle.vr_space.specs.Keyed.{HaveRooms, HoldRanges, IsHead, IsKeyedSound, IsOwned, KeepsRoom}
use Rattle.vr_space.specs.Keyed.{Keyed, content_from, entries_of, last_high, low_of, way_under}

-- Where a keyed part is: its number, its first area, and the shape of its volume; and what its
-- records are: the length and offset of the key, and the longest record.
pub record KeyedChain : Type 0 where
  pub part : ℕ
  pub first : ℕ
  pub geometry : Geometry
  pub key : ℕ
  pub offset : ℕ
  pub most : ℕ

-- there may be such a part: its first area is there, and a record fits into an interval
pub record IsKeyedChain (part : KeyedChain) : Type 0 where
  pub allowed : IsAllowed part.geometry
  pub first : part.first < area_count part.geometry
  pub fits : part.most + 7 ≤ part.geometry.size

-- one of its areas, by the number that it has on the volume
abbrev pub area_of : KeyedChain → ℕ → Keyed
area_of part area = record {
  part = part.part;
  head = head_block part.geometry area;
  area = part.geometry.area;
  size = part.geometry.size;
  key = part.key;
  offset = part.offset;
  most = part.most;
}

-- the block of its head, and what an image has there
abbrev pub head_of : KeyedChain → ℕ → ℕ
head_of part area = head_block part.geometry area

abbrev pub head_in : KeyedChain → Image → ℕ → Block
head_in part image area = block_at image (head_of part area)

-- an area of the volume, each block of which is the part's own
pub record IsOwnedArea (part : KeyedChain) (owners : Owners) (area : ℕ) : Type 0 where
  pub there : area < area_count part.geometry
  pub owned : IsOwned (area_of part area) owners

-- where the ranges of a head end
abbrev pub end_of : Block → Option (List ℕ)
end_of top = last_high (entries_of top)

-- After a head comes none, and its last range goes up to the greatest key; or the area that it
-- names, of which this is true from the end of its last range on.
abbrev pub IsFollowed : KeyedChain → (ℕ → Option (List ℕ) → Type 0) → Block → Option ℕ → Type 0
IsFollowed part After top None = end_of top ≡ Some (replicate part.key 255)
IsFollowed part After top (Some area) = After area (end_of top)

-- ---- what a crash may leave of a chain

-- Whatever a crash leaves of the area, it is in order, its ranges begin at the low place, and the
-- chain goes on from where they end.
pub record IsLinked (part : KeyedChain) (now : Seen) (area : ℕ) (low : Option (List ℕ))
    (After : ℕ → Option (List ℕ) → Type 0) : Type 0 where
  pub sound : IsKeyedSound (area_of part area) now
  pub begins : Only now (head_of part area) (λ top. low_of top ≡ low)
  pub next : Only now (head_of part area)
      (λ top. IsFollowed part After top (record_in top).next)

-- a chain of at most so many areas goes on from this one, whose ranges begin at the low place, in
-- areas of which Own is true
abbrev pub Links : KeyedChain → (ℕ → Type 0) → Seen → ℕ → ℕ → Option (List ℕ) → Type 0
Links part Own now zero area low = ⊥
Links part Own now (suc k) area low =
    Own area × IsLinked part now area low (Links part Own now k)

-- the same from the part's first area on
abbrev pub AreLinked : KeyedChain → (ℕ → Type 0) → Seen → Type 0
AreLinked part Own now = Links part Own now (area_count part.geometry) part.first None

-- the volume has the part's blocks, with their size
pub record IsChainOn (part : KeyedChain) (now : Seen) : Type 0 where
  pub part_is : IsKeyedChain part
  pub blocks : part.geometry.blocks ≤ now.count
  pub size : now.size ≡ part.geometry.size

-- A crash leaves heads of the part alone, each of which leads on through areas of its own, and of
-- each interval that one of them leads to contents of its range.
pub record IsChainSound (part : KeyedChain) (owners : Owners) (now : Seen) : Type 0 where
  pub on : IsChainOn part now
  pub chain : AreLinked part (IsOwnedArea part owners) now

-- an area of the part's own of whose head a crash leaves the current content alone
pub record IsQuietArea (part : KeyedChain) (owners : Owners) (now : Seen) (area : ℕ) : Type 0 where
  pub own : IsOwnedArea part owners area
  pub one_head : Only now (head_of part area) (λ top. top ≡ head_in part now.cur area)

-- Between two events: it leaves the current heads alone.
pub record IsChainAtRest (part : KeyedChain) (owners : Owners) (now : Seen) : Type 0 where
  pub on : IsChainOn part now
  pub chain : AreLinked part (IsQuietArea part owners now) now

-- ---- the chain in an image

-- its areas, in their order, from one on
abbrev pub areas_after : KeyedChain → Image → ℕ → ℕ → List ℕ
areas_after part image zero area = []
areas_after part image (suc k) area =
    area ∷ after_next [] (areas_after part image k) (record_in (head_in part image area)).next

abbrev pub areas_in : KeyedChain → Image → List ℕ
areas_in part image = areas_after part image (area_count part.geometry) part.first

-- how many intervals the heads of these areas lead to, and those of the chain
abbrev pub intervals_over : KeyedChain → Image → List ℕ → ℕ
intervals_over part image [] = 0
intervals_over part image (area ∷ areas) =
    length (entries_of (head_in part image area)) + intervals_over part image areas

abbrev pub intervals_in : KeyedChain → Image → ℕ
intervals_in part image = intervals_over part image (areas_in part image)

-- the records of an area, and of the chain from one on
abbrev pub content_in : KeyedChain → Image → ℕ → Content
content_in part image area = content_from (area_of part area) image
    (low_of (head_in part image area)) (entries_of (head_in part image area))

abbrev pub content_after : KeyedChain → Image → ℕ → ℕ → Content
content_after part image zero area = []
content_after part image (suc k) area =
    content_in part image area
    ++ after_next [] (content_after part image k) (record_in (head_in part image area)).next

-- The area is there and in order, its ranges begin at the low place, and the chain goes on from
-- where they end.
pub record IsLinkedIn (part : KeyedChain) (image : Image) (area : ℕ) (low : Option (List ℕ))
    (After : ℕ → Option (List ℕ) → Type 0) : Type 0 where
  pub there : area < area_count part.geometry
  pub head : IsHead (area_of part area) (head_in part image area)
  pub intervals : HoldRanges (area_of part area) image (low_of (head_in part image area))
      (entries_of (head_in part image area))
  pub begins : low_of (head_in part image area) ≡ low
  pub next : IsFollowed part After (head_in part image area)
      (record_in (head_in part image area)).next

abbrev pub LinksIn : KeyedChain → Image → ℕ → ℕ → Option (List ℕ) → Type 0
LinksIn part image zero area low = ⊥
LinksIn part image (suc k) area low = IsLinkedIn part image area low (LinksIn part image k)

-- The blocks stand for the content: the records of each area, in the order of the chain.
pub record ChainStandsFor (part : KeyedChain) (image : Image) (content : Content) : Type 0 where
  pub part_is : IsKeyedChain part
  pub chain : LinksIn part image (area_count part.geometry) part.first None
  pub records : content
      ≡ content_after part image (area_count part.geometry) part.first

-- ---- the way to a place

-- the place isn't past where the ranges of a head end
abbrev pub is_upto : Option (List ℕ) → List ℕ → Bool
is_upto None place = false
is_upto (Some high) place = is_le (place_cmp place high)

abbrev pub reaches : Block → List ℕ → Bool
reaches top place = is_upto (end_of top) place

-- after a head: the way under it, or over the next area
abbrev pub way_past : KeyedChain → List ℕ → ℕ → (ℕ → Way) → Block → Way
way_past part place area after top =
    if reaches top place then way_under (area_of part area) place top
    else after_next (Found None) after (record_in top).next

-- over the heads up to that whose ranges reach the place, and one interval
abbrev pub areas_way : KeyedChain → List ℕ → ℕ → ℕ → Way
areas_way part place zero area = Found None
areas_way part place (suc k) area =
    Reads (head_of part area) (way_past part place area (areas_way part place k))

abbrev pub chain_way : KeyedChain → List ℕ → Way
chain_way part place = areas_way part place (area_count part.geometry) part.first

-- the area whose ranges reach a place, from one on
abbrev pub area_after : KeyedChain → Image → List ℕ → ℕ → ℕ → Option ℕ
area_after part image place zero area = None
area_after part image place (suc k) area =
    if reaches (head_in part image area) place then Some area
    else after_next None (area_after part image place k) (record_in (head_in part image area)).next

abbrev pub area_for : KeyedChain → Image → List ℕ → Option ℕ
area_for part image place = area_after part image place (area_count part.geometry) part.first

-- ---- what is true of each area

-- P is true of each area of a chain of at most so many areas, whichever of their heads is allowed
abbrev pub EachAfter : KeyedChain → (ℕ → Type 0) → (ℕ → Block → Type 0) → ℕ → ℕ → Type 0
EachAfter part P may zero area = Unit {0}
EachAfter part P may (suc k) area = P area
    × ((top : Block) → may (head_of part area) top
    → IfSome (record_in top).next (EachAfter part P may k))

abbrev pub EachArea : KeyedChain → (ℕ → Type 0) → (ℕ → Block → Type 0) → Type 0
EachArea part P may = EachAfter part P may (area_count part.geometry) part.first

-- the image leads to areas of the part's own alone
abbrev pub ChainStaysIn : KeyedChain → Owners → Image → Type 0
ChainStaysIn part owners image = EachArea part (IsOwnedArea part owners) (IsOf image)

-- whatever a crash leaves of an interval, what is kept for its range has room beside it
abbrev pub ChainKeepsRoom : KeyedChain → Lengths → Seen → Type 0
ChainKeepsRoom part kept now = EachArea part (λ area. KeepsRoom (area_of part area) kept now)
    now.may

-- the same in one image
abbrev pub ChainHasRoom : KeyedChain → Lengths → Image → Type 0
ChainHasRoom part kept image = EachArea part
    (λ area. HaveRooms (area_of part area) kept image (low_of (head_in part image area))
    (entries_of (head_in part image area)))
    (IsOf image)

-- ---- what is kept in memory

-- the areas of the chain, and where the ranges of each end
pub record KnowsAreas (part : KeyedChain) (areas : List ℕ) (ends : List (List ℕ)) (image : Image) :
    Type 0 where
  pub areas_are : areas ≡ areas_in part image
  pub ends_are : map Some ends ≡ map (λ area. end_of (head_in part image area)) areas

-- the first of these areas whose end isn't before the place
abbrev pub area_by : List ℕ → List (List ℕ) → List ℕ → Option ℕ
area_by [] ends place = None
area_by (area ∷ areas) [] place = None
area_by (area ∷ areas) (end ∷ ends) place =
    if is_le (place_cmp place end) then Some area else area_by areas ends place
