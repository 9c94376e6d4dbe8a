-- A put by which the chain is as it was, or longer, whichever owners it rests by; and puts one
-- after another.
use Rattle.std.proofs.Common.{◌≡◌, ◌<◌, ◌≤◌, ◌+◌, ℕ, Bool, IsTrue, List, [], length, All, Option}
use Rattle.std.proofs.Common.{sym, ◌∙◌}
use Rattle.vr_types.specs.Blocks.{Puts}
use Rattle.vr_types.specs.Geometry.{area_count}
use Rattle.vr_types.specs.Image.{Block}
use Rattle.vr_types.specs.Seen.{Left, Only, Seen}
use Rattle.vr_types.specs.declared.unit.PartNo.{PartNo}
use Rattle.vr_types.proofs.CallerLemmas.{touches-then}
use Rattle.vr_space.specs.Owners.{Owners}
use Rattle.vr_space.specs.Part.{DueMore, HasRoom, InPart, IsQuiet, MayGrow, Nothing, NumberedShape}
use Rattle.vr_space.specs.Room.{Lengths}
use Rattle.vr_space.specs.Rosters.{IsChained, IsOwnArea, Numbered, chain_of, used_of}
use Rattle.vr_space.specs.Entries.{Tail}
use Rattle.vr_space.specs.Numbered.{IsFilled, IsNumberedAtRest, IsRestingArea, KeepsNumbered}
use Rattle.vr_space.specs.Numbered.{KnowsTail}
use Rattle.vr_space.proofs.CallerLemmas.{due-then, nothing-then, records-then}
use Rattle.vr_chained.specs.Chain.{ChainNow, IsChainOf}
use Rattle.vr_chained.specs.Extended.{IsExtended, MayExtend}
use Rattle.vr_chained.proofs.Longer.{Lengthens}
use Rattle.vr_chained.proofs.LongerPuts.{IsPutOver, put-adds, put-due, put-rests, put-room}
use Rattle.vr_chained.proofs.LongerPuts.{put-rooms, put-same}

-- ---- one put

-- an area is the part's own by owners who leave it the blocks that it has
pub own-grows : (part : Numbered) (areas : List (Option PartNo)) (owners grown : Owners) (area : ℕ)
    → MayGrow (NumberedShape part) areas owners grown → IsOwnArea part owners area
    → IsOwnArea part grown area
own-grows part areas owners grown area grows own = record {
  there = own.there;
  owned = λ n inside. grows.kept n part.part (own.owned n inside);
}

module _ (part : Numbered) (tells : Bool) (told : IsTrue tells) (a b : Seen) (n : ℕ)
    (bytes : Block) (call : Puts tells n bytes a b) (left : Left a a.cur) (below : n < a.count)
    (more : List ℕ) (Own : Owners → ℕ → Type 0)
    (resting : (owners : Owners) (area : ℕ) → Own owners area → IsRestingArea part owners a area)
    (chain : (owners : Owners) → IsNumberedAtRest part owners a
    → IsChained part (Own owners) (IsFilled part) a.may)
    (room : length (chain_of part a.cur) + length more ≤ area_count part.geometry)
    (lengthens : (owners : Owners) → IsNumberedAtRest part owners a → (Wider : ℕ → Type 0)
    (old new : ℕ → Block → Type 0) → All Wider more → IsPutOver a n bytes old new
    → Lengthens part (Own owners) Wider a.cur more old new) where
  -- whether it failed or not
  pub may-put : (areas : List (Option PartNo)) (kept : Lengths) → IsQuiet (NumberedShape part) a
      → KeepsNumbered part kept a.may
      → ((owners grown : Owners) → MayGrow (NumberedShape part) areas owners grown
      → IsNumberedAtRest part owners a
      → InPart (NumberedShape part) grown n × All (IsOwnArea part grown) more)
      → MayExtend part areas kept a b
  may-put areas kept quiet keeps mine = record {
    adds = λ owners grown grows rests. put-adds part tells told a b n bytes call left more owners
        (Own owners) rests.on (resting owners) (chain owners rests) room (lengthens owners rests)
        grown (mine owners grown grows rests).0
        (λ area own. own-grows part areas owners grown area grows (resting owners area own).own)
        (mine owners grown grows rests).1;
    same = put-same part tells told a b n bytes call left more quiet.0 (Own quiet.0) quiet.1.on
        (resting quiet.0) (chain quiet.0 quiet.1) room (lengthens quiet.0 quiet.1) below;
    room = put-room part tells told a b n bytes call left more quiet.0 (Own quiet.0) quiet.1.on
        (resting quiet.0) (chain quiet.0 quiet.1) room (lengthens quiet.0 quiet.1) kept keeps;
    rooms = λ owners grown grows rests. put-rooms part tells told a b n bytes call left more owners
        (Own owners) rests.on (resting owners) (chain owners rests) room (lengthens owners rests)
        grown (mine owners grown grows rests).0
        (λ area own. own-grows part areas owners grown area grows (resting owners area own).own)
        (mine owners grown grows rests).1 kept keeps;
  }

  -- where it is forced
  module _ (only : Only b n (λ (block : Block). block ≡ bytes)) (after : Left b b.cur) where
    pub due-put : IsQuiet (NumberedShape part) a → DueMore (NumberedShape part) [] a b
    due-put quiet = put-due part tells told a b n bytes call left more quiet.0 (Own quiet.0)
        quiet.1.on (resting quiet.0) (chain quiet.0 quiet.1) room (lengthens quiet.0 quiet.1) only
        after below

    pub rests-put : (owners grown : Owners) → IsNumberedAtRest part owners a
        → ((area : ℕ) → IsOwnArea part owners area → IsOwnArea part grown area)
        → All (IsRestingArea part grown b) more → IsNumberedAtRest part grown b
    rests-put owners grown rests wider added = put-rests part tells told a b n bytes call left more
        owners (Own owners) rests.on (resting owners) (chain owners rests) room
        (lengthens owners rests) only after below grown
        (λ area own. wider area (resting owners area own).own) added

-- ---- one after another

-- A put that is forced left the chain as it was.
pub record KeepsChain (part : Numbered) (a b : Seen) : Type 0 where
  pub due : DueMore (NumberedShape part) [] a b
  pub stays : (owners : Owners) → IsNumberedAtRest part owners a → IsNumberedAtRest part owners b
  pub areas : chain_of part b.cur ≡ chain_of part a.cur
  pub used : used_of part b.cur ≡ used_of part a.cur
  pub tail : (tail : Option Tail) → KnowsTail part.relative part a.cur tail
      → KnowsTail part.relative part b.cur tail

pub keeps-then : (part : Numbered) (a b c : Seen) → KeepsChain part a b → KeepsChain part b c
    → KeepsChain part a c
keeps-then part a b c first second = record {
  due = due-then (NumberedShape part) [] a b c first.due second.due;
  stays = λ owners rests. second.stays owners (first.stays owners rests);
  areas = second.areas ∙ first.areas;
  used = second.used ∙ first.used;
  tail = λ tail knows. second.tail tail (first.tail tail knows);
}

pub keeps-quiet : (part : Numbered) (a b : Seen) → KeepsChain part a b
    → IsQuiet (NumberedShape part) a → IsQuiet (NumberedShape part) b
keeps-quiet part a b first quiet = (quiet.0, first.stays quiet.0 quiet.1)

pub keeps-of : (chain : ChainNow) (a b : Seen) → KeepsChain chain.part a b → IsChainOf chain a.cur
    → IsChainOf chain b.cur
keeps-of chain a b first of =
    record { areas = of.areas ∙ sym first.areas; used = of.used ∙ sym first.used }

module _ (part : Numbered) (areas : List (Option PartNo)) (a b c : Seen)
    (first : KeepsChain part a b) where
  pub may-then : (kept : Lengths) → MayExtend part areas kept a b → MayExtend part areas kept b c
      → MayExtend part areas kept a c
  may-then kept early late = record {
    adds = λ owners grown grows rests. nothing-then (NumberedShape part) grown Nothing a b c
        (early.adds owners grown grows rests)
        (late.adds owners grown grows (first.stays owners rests));
    same = records-then (NumberedShape part) a.cur b.cur c.cur early.same late.same;
    room = late.room;
    rooms = λ owners grown grows rests. touches-then (InPart (NumberedShape part) grown)
        (HasRoom (NumberedShape part) kept) a b c (early.rooms owners grown grows rests)
        (late.rooms owners grown grows (first.stays owners rests));
  }

  pub done-then : (after : List (Option PartNo)) → IsExtended part areas after b c
      → IsExtended part areas after a c
  done-then after late = record {
    due = due-then (NumberedShape part) [] a b c first.due late.due;
    rests = λ owners grown grows rests. late.rests owners grown grows (first.stays owners rests);
    stays = λ owners same rests. late.stays owners same (first.stays owners rests);
    tail = λ tail knows. late.tail tail (first.tail tail knows);
  }
