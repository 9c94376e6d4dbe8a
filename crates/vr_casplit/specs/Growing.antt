-- What the stages of an area split leave of a part: the same records, and in the end its chain with
-- one area more. The rules are this project's own.
use Rattle.std.specs.Prelude.{ℕ, [], Contains}
use Rattle.vr_types.specs.Regions.{Touches}
use Rattle.vr_types.specs.Seen.{Seen}
use Rattle.vr_space.specs.Areas.{ChainKeepsRoom, IsChainAtRest, IsOwnedArea, KeyedChain, areas_in}
use Rattle.vr_space.specs.Owners.{Owners}
use Rattle.vr_space.specs.Part.{AddsTo, DueMore, HasRoom, InPart, KeyedShape, Nothing, SameRecords}
use Rattle.vr_space.specs.Room.{Lengths}

-- The part is at rest, with room for what is kept; the area `into` is its own, and none of its
-- chain.
pub record IsGrowing (part : KeyedChain) (into : ℕ) (owners : Owners) (kept : Lengths) (now : Seen)
    : Type 0 where
  pub rests : IsChainAtRest part owners now
  pub room : ChainKeepsRoom part kept now
  pub own : IsOwnedArea part owners into
  pub apart : Contains (areas_in part now.cur) into → ⊥

-- Whether it failed or not: nothing is added to what a place may hold, each has its record, and
-- there is room for what is kept, in the image of each moment and from then on.
pub record LeavesRecords (part : KeyedChain) (owners : Owners) (kept : Lengths) (old new : Seen)
    : Type 0 where
  pub adds : AddsTo (KeyedShape part) owners Nothing old new
  pub same : SameRecords (KeyedShape part) old.cur new.cur
  pub room : ChainKeepsRoom part kept new
  pub rooms : Touches (InPart (KeyedShape part) owners) (HasRoom (KeyedShape part) kept) old new

-- It is done: the part is at rest, and nothing more has to be forced than before.
pub record LeavesRest (part : KeyedChain) (owners : Owners) (old new : Seen) : Type 0 where
  pub rests : IsChainAtRest part owners new
  pub due : DueMore (KeyedShape part) [] old new
