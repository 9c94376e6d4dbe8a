-- A keyed part at rest: each area of its chain is so, and what a place may hold in the area that it
-- comes to is what it may hold in the part.
use Rattle.std.proofs.Common.{◌≡◌, ◌<◌, ℕ, List, Option, Some}
use Rattle.std.proofs.Common.{None, arith, refl, sym, subst, ◌∙◌}
use Rattle.std.specs.Prelude.{Contains}
use Rattle.vr_types.specs.Content.{Item}
use Rattle.vr_types.specs.Geometry.{area_count}
use Rattle.vr_types.specs.Seen.{Left, Seen}
use Rattle.vr_space.specs.AreaCalls.{IsAreaOn, IsDueHere}
use Rattle.vr_space.specs.Areas.{ChainKeepsRoom, EachArea}
use Rattle.vr_space.specs.Areas.{IsChainOn, IsChainAtRest, IsQuietArea, KeyedChain}
use Rattle.vr_space.specs.Areas.{LinksIn, area_for, area_of, areas_in, content_after, head_in}
use Rattle.vr_space.specs.Areas.{head_of}
use Rattle.vr_space.specs.Keyed.{HasEnds, IsKeyedAtRest, IsKeyedSound}
use Rattle.vr_space.specs.Keyed.{IsValid, KeepsRoom, key_of}
use Rattle.vr_space.specs.Owners.{Owners}
use Rattle.vr_space.specs.Part.{IsDueTo}
use Rattle.vr_space.specs.Part.{IsRecordOf, KeyedShape, MayHold, Stands}
use Rattle.vr_space.specs.Room.{Lengths}
use Rattle.vr_space.specs.Rosters.{IsOf}
use Rattle.vr_space.specs.Way.{MayOnceForced}
use Rattle.vr_space.proofs.AreaPlaces.{item-of-area}
use Rattle.vr_space.proofs.Ends.{same-ends}
use Rattle.vr_space.proofs.LinkedContent.{area-found}
use Rattle.vr_space.proofs.Links.{area-there, area-each, each-after-both, each-after-image}
use Rattle.vr_space.proofs.Links.{each-after-less, links-each, links-image, links-stay}
use Rattle.vr_space.proofs.SameEnds.{KeepsHead, MayHoldBy}
use Rattle.vr_space.proofs.SameEnds.{ways-up}

-- an area of the chain of a part at rest
abbrev pub IsResting : KeyedChain → Owners → Seen → ℕ → Type 0
IsResting part owners now area =
    IsQuietArea part owners now area × IsKeyedSound (area_of part area) now

-- which has room for what is kept
abbrev pub IsRestingRoom : KeyedChain → Owners → Lengths → Seen → ℕ → Type 0
IsRestingRoom part owners kept now area =
    IsResting part owners now area × KeepsRoom (area_of part area) kept now

module _ (part : KeyedChain) (owners : Owners) (old : Seen) (rests : IsChainAtRest part owners old)
    (left : Left old old.cur) where
  abbrev count : ℕ
  count = area_count part.geometry

  head-may : (at : ℕ) → IsKeyedSound (area_of part at) old
      → old.may (head_of part at) (head_in part old.cur at)
  head-may at sound = left.each (head_of part at) (omega (arith, sound.area))

  -- its chain is in order,
  pub resting-links : LinksIn part old.cur (area_count part.geometry) part.first None
  resting-links = links-image part (IsQuietArea part owners old) old old.cur
      (λ at is. is.own.there) (λ at is n block. left.each n block.0) count part.first None
      rests.chain

  -- so the blocks stand for a content;
  pub resting-stands : Stands (KeyedShape part) old.cur
  resting-stands = (
    content_after part old.cur count part.first,
    record { part_is = rests.on.part_is; chain = resting-links; records = refl },
  )

  -- each area of it is at rest,
  pub resting-each : EachArea part (IsResting part owners old) (IsOf old.cur)
  resting-each = links-stay part (IsQuietArea part owners old) old old.cur
      (λ at quiet sound. head-may at sound) count part.first None rests.chain

  pub resting-area : (at : ℕ) → Contains (areas_in part old.cur) at → IsResting part owners old at
  resting-area at =
      area-each part (IsResting part owners old) old.cur count part.first at resting-each

  -- and so is the one that a place comes to.
  pub resting-for : (place : List ℕ) (at : ℕ) → area_for part old.cur place ≡ Some at
      → IsResting part owners old at
  resting-for place at found = resting-area at
      (area-found part old.cur place count part.first None resting-links refl at found).inside

  -- A head that a crash may leave has the ends of the current one.
  pub old-head : (at : ℕ) → IsResting part owners old at → KeepsHead part old.cur old.may at
  old-head at is top may =
      subst (HasEnds (head_in part old.cur at)) (sym (is.0.one_head top may))
      (same-ends (head_in part old.cur at))

  -- What may be held in the area that a place comes to may be held in the part,
  pub hold-up : (place : List ℕ) (item : Option Item)
      → MayHoldBy part old.cur old.may place item (area_for part old.cur place)
      → MayHold (KeyedShape part) old.may place item
  hold-up place item = ways-up part old.cur old.may place item count part.first
      (each-after-less part (IsResting part owners old)
      (λ at. KeepsHead part old.cur old.may at
      × old.may (head_of part at) (head_in part old.cur at))
      (IsOf old.cur) (IsOf old.cur) (λ at is. (old-head at is, head-may at is.1))
      (λ at is top here. here) count part.first resting-each)

  -- and what is due to some blocks for a place is so in its area.
  pub due-here : (listed place : List ℕ) → IsDueTo (KeyedShape part) listed old place → (at : ℕ)
      → area_for part old.cur place ≡ Some at → IsDueHere (area_of part at) listed old place
  due-here listed place due at found item holds =
      due item (ways-up part old.cur (MayOnceForced listed old) place item count part.first
      (each-after-less part (IsResting part owners old)
      (λ one. KeepsHead part old.cur (MayOnceForced listed old) one
      × MayOnceForced listed old (head_of part one) (head_in part old.cur one))
      (IsOf old.cur) (IsOf old.cur)
      (λ one is. (λ top may. old-head one is top may.0, (head-may one is.1, λ there. refl)))
      (λ one is top here. here) count part.first resting-each)
      (subst (MayHoldBy part old.cur (MayOnceForced listed old) place item) (sym found) holds))
      ∙ item-of-area part old.cur place at found

  -- Where what is kept has room, it has it in each.
  pub resting-rooms : (kept : Lengths) → ChainKeepsRoom part kept old
      → EachArea part (IsRestingRoom part owners kept old) (IsOf old.cur)
  resting-rooms kept room = each-after-image part (IsRestingRoom part owners kept old)
      (IsRestingRoom part owners kept old) old.may old.cur (λ at is. is)
      (λ at is. head-may at is.0.1) count part.first
      (each-after-both part (IsResting part owners old)
      (λ at. KeepsRoom (area_of part at) kept old) old.may count part.first
      (links-each part (IsQuietArea part owners old) old count part.first None rests.chain) room)

  -- So an area of the chain is at rest,
  pub rest-here : (at : ℕ) → Contains (areas_in part old.cur) at
      → IsKeyedAtRest (area_of part at) old
  rest-here at inside =
      let is : IsResting part owners old at = resting-area at inside in
      record { sound = is.1; one_head = is.0.one_head }

  -- and has room for what is kept.
  pub room-here : (kept : Lengths) → ChainKeepsRoom part kept old → (at : ℕ)
      → Contains (areas_in part old.cur) at → KeepsRoom (area_of part at) kept old
  room-here kept room at inside = (area-each part (IsRestingRoom part owners kept old) old.cur count
      part.first at (resting-rooms kept room) inside).1

-- ---- of any area

-- its blocks are there
pub area-on : (part : KeyedChain) (now : Seen) → IsChainOn part now → (area : ℕ)
    → area < area_count part.geometry → IsAreaOn (area_of part area) now
area-on part now on area below = (area-there part now on area below, on.size)

-- a record that may stand at a place of the part may stand at that of the area
pub record-of-area : (part : KeyedChain) (area : ℕ) (place bytes : List ℕ)
    → IsRecordOf (KeyedShape part) place bytes
    → IsValid (area_of part area) bytes × (key_of (area_of part area) bytes ≡ place)
record-of-area part area place bytes is =
    (record { least = is.0.least; most = is.0.most }, is.1)
