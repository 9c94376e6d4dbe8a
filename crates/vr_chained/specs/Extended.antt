-- What an interval more, or an area more, leaves of a part. The rules are this project's
-- own.
use Rattle.std.specs.Prelude.{◌≡◌, ◌≤◌, ◌+◌, ◌-◌, ℕ, List, [], Option, length}
use Rattle.std.specs.Int.{div_ceil}
use Rattle.vr_types.specs.Geometry.{area_count}
use Rattle.vr_types.specs.Image.{Block}
use Rattle.vr_types.specs.Regions.{Touches}
use Rattle.vr_types.specs.Seen.{Seen}
use Rattle.vr_types.specs.Space.{free_count}
use Rattle.vr_types.specs.declared.unit.PartNo.{PartNo}
use Rattle.vr_seqset.specs.Reading.{roster_in}
use Rattle.vr_space.specs.Room.{Lengths}
use Rattle.vr_space.specs.Owners.{Owners}
use Rattle.vr_space.specs.Part.{AddsTo, DueMore, HasKeptRoom, HasRoom, InPart, IsAtRest, MayGrow}
use Rattle.vr_space.specs.Part.{Nothing, NumberedShape, SameRecords}
use Rattle.vr_space.specs.Entries.{Tail}
use Rattle.vr_space.specs.Numbered.{KnowsTail}
use Rattle.vr_space.specs.Rosters.{IsRosterOf, Numbered}
use Rattle.vr_chained.specs.Chain.{ChainNow}

-- Whether it failed or not: nothing is added to what places may hold, and what is kept has room, in
-- the image of each moment and from then on.
pub record MayExtend (part : Numbered) (areas : List (Option PartNo)) (kept : Lengths)
    (old new : Seen) : Type 0 where
  pub adds : (owners grown : Owners) → MayGrow (NumberedShape part) areas owners grown
      → IsAtRest (NumberedShape part) owners old
      → AddsTo (NumberedShape part) grown Nothing old new
  pub same : SameRecords (NumberedShape part) old.cur new.cur
  pub room : HasKeptRoom (NumberedShape part) kept new
  pub rooms : (owners grown : Owners) → MayGrow (NumberedShape part) areas owners grown
      → IsAtRest (NumberedShape part) owners old
      → Touches (InPart (NumberedShape part) grown) (HasRoom (NumberedShape part) kept) old new

-- The interval is there: the part is at rest, with the blocks that it may have claimed.
pub record IsExtended (part : Numbered) (areas after : List (Option PartNo)) (old new : Seen)
    : Type 0
  where
    pub due : DueMore (NumberedShape part) [] old new
    pub rests : (owners grown : Owners) → MayGrow (NumberedShape part) areas owners grown
        → IsAtRest (NumberedShape part) owners old → IsAtRest (NumberedShape part) grown new
    pub stays : (owners : Owners) → after ≡ areas → IsAtRest (NumberedShape part) owners old
        → IsAtRest (NumberedShape part) owners new
    pub tail : (tail : Option Tail) → KnowsTail part.relative part old.cur tail
        → KnowsTail part.relative part new.cur tail

-- The block is the roster that a part's area has with so many intervals used and this area next.
pub record IsMadeRoster (part : Numbered) (used : ℕ) (next : Option ℕ) (block : Block) : Type 0
  where
    pub roster : IsRosterOf part block
    pub has : roster_in block ≡ record { used = used; part = part.part; next = next }

-- The interval more is due: one that isn't used is wanted, and areas enough for it are free, which
-- are those of the volume; and the part is at rest, in blocks that it may have more of.
pub record IsMoreDue (chain : ChainNow) (areas : List (Option PartNo)) (now : Seen) : Type 0 where
  pub interval : ℕ
  pub unused : chain.used ≤ interval
  pub enough : div_ceil (interval + 1) chain.part.geometry.area - length chain.areas
      ≤ free_count areas
  pub volume : length areas ≡ area_count chain.part.geometry
  pub owners : Owners
  pub grown : Owners
  pub grows : MayGrow (NumberedShape chain.part) areas owners grown
  pub rests : IsAtRest (NumberedShape chain.part) owners now
