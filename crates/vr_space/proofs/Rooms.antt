-- Room in what a crash may leave, as it may leave less, and in each of its images.
use Rattle.std.proofs.Common.{◌<◌, ◌+◌, ℕ, Bool, IsTrue, List, [], ◌∷◌, Option, Some, arith}
use Rattle.std.proofs.Common.{None, subst, sym}
use Rattle.vr_types.specs.Geometry.{area_count}
use Rattle.vr_types.specs.Image.{Block, Image, block_at}
use Rattle.vr_types.specs.Seen.{Seen}
use Rattle.vr_types.specs.Blocks.{Keeps}
use Rattle.vr_types.specs.Regions.{IsImageOn, Touches}
use Rattle.vr_types.proofs.CallerLemmas.{keeps-touches}
use Rattle.vr_seqset.specs.Entry.{Entry}
use Rattle.vr_space.specs.Room.{Lengths, HaveRoom}
use Rattle.vr_space.specs.AreaCalls.{HasRoomHere}
use Rattle.vr_space.specs.Areas.{ChainKeepsRoom, EachAfter, IsChainSound, IsOwnedArea, KeyedChain}
use Rattle.vr_space.specs.Areas.{area_of, head_of}
use Rattle.vr_space.specs.Keyed.{Keyed, EachMayLeave, HaveRooms, IsKeyedSound, KeepsRoom}
use Rattle.vr_space.specs.Keyed.{InArea, entries_of, entry_block, lengths_of, low_of}
use Rattle.vr_space.specs.Owners.{Owners}
use Rattle.vr_space.specs.Part.{Shape, KeyedShape, NumberedShape, HasKeptRoom, HasRoom}
use Rattle.vr_space.specs.Part.{InPart, IsSound}
use Rattle.vr_space.specs.Rosters.{IsOf, IsOwnArea}
use Rattle.vr_space.specs.Numbered.{IsFilled}
use Rattle.vr_space.proofs.KeyedSound.{AreIn, IsBlock, each-less, head-block, head-in}
use Rattle.vr_space.proofs.Links.{each-after-both, each-after-image, each-after-less, links-each}
use Rattle.vr_space.proofs.PartBlocks.{IsPartBlock, area-owned, keyed-owned}
use Rattle.vr_space.proofs.NumberedRooms.{numbered-less}

-- the same of an area of a keyed part
pub area-room-less : (part : Keyed) (kept : Lengths) (a b : Seen)
    → ((n : ℕ) (block : Block) → IsBlock part a n → b.may n block → a.may n block)
    → IsKeyedSound part a → KeepsRoom part kept a → KeepsRoom part kept b
area-room-less part kept a b less sound room = record {
  places = room.places;
  each = λ top may.
      let before : a.may part.head top = less part.head top
      (omega (arith, sound.area), (omega arith, omega arith)) may in
      each-less part a b _ (low_of top) (entries_of top) less sound.area
      (head-in part top (sound.heads top before)) (room.each top before);
}

-- an area of the part's own is in order, and has room
abbrev pub IsRoomyArea : KeyedChain → Owners → Lengths → Seen → ℕ → Type 0
IsRoomyArea part owners kept now area =
    (IsOwnedArea part owners area × IsKeyedSound (area_of part area) now)
    × KeepsRoom (area_of part area) kept now

pub roomy-each : (part : KeyedChain) (owners : Owners) (kept : Lengths) (now : Seen)
    → IsChainSound part owners now → ChainKeepsRoom part kept now
    → EachAfter part (IsRoomyArea part owners kept now) now.may (area_count part.geometry)
    part.first
roomy-each part owners kept now sound room =
    let count = area_count part.geometry in
    each-after-both part
    (λ area. IsOwnedArea part owners area × IsKeyedSound (area_of part area) now)
    (λ area. KeepsRoom (area_of part area) kept now) now.may count part.first
    (links-each part (IsOwnedArea part owners) now count part.first None sound.chain) room

-- What is kept has room where a crash may leave no more of the part's blocks.
pub room-less : (shape : Shape) (owners : Owners) (kept : Lengths) (a b : Seen)
    → ((n : ℕ) (block : Block) → IsPartBlock shape owners a n → b.may n block → a.may n block)
    → IsSound shape owners a → HasKeptRoom shape kept a → HasKeptRoom shape kept b
room-less (KeyedShape part) owners kept a b less sound room =
    let each : (area : ℕ) → IsRoomyArea part owners kept a area → (n : ℕ) (block : Block)
    → IsBlock (area_of part area) a n → b.may n block → a.may n block =
    λ area is n block inside. less n block (keyed-owned part owners a area is.0.0 n inside) in
    each-after-less part (IsRoomyArea part owners kept a)
    (λ area. KeepsRoom (area_of part area) kept b) a.may b.may
    (λ area is. area-room-less (area_of part area) kept a b (each area is) is.0.1 is.1)
    (λ area is top. each area is (head_of part area) top
    (head-block (area_of part area) a is.0.1))
    (area_count part.geometry) part.first (roomy-each part owners kept a sound room)
room-less (NumberedShape part) owners kept a b less sound room =
    numbered-less part (IsOwnArea part owners) (IsFilled part) b.may a.may kept
    (λ area own n inside block. less n block (area-owned part owners a sound.on area own n inside))
    sound.chain room

-- so a call that puts nothing leaves it room
pub room-keeps : (tells : Bool) → IsTrue tells → (shape : Shape) (owners : Owners) (kept : Lengths)
    (a b : Seen) → Keeps tells a b → IsSound shape owners a → HasKeptRoom shape kept a
    → HasKeptRoom shape kept b
room-keeps tells told shape owners kept a b call =
    room-less shape owners kept a b (λ n block is may. call.adds_none told n block is.0 may)

rooms-image : (part : Keyed) (kept : Lengths) (now : Seen) (image : Image) (low : Option (List ℕ))
    (entries : List Entry) → part.head + part.area < now.count
    → IsImageOn (InArea part) now.count now.may image → AreIn part.area entries
    → EachMayLeave part now low entries
    (λ range block. HaveRoom part.size (lengths_of part kept range block))
    → HaveRooms part kept image low entries
rooms-image part kept now image low [] area left inside each = tt
rooms-image part kept now image low (entry ∷ entries) area left inside each = (
  each.0 (block_at image (entry_block part entry))
      (left.each (entry_block part entry) (omega (arith, area, inside.0))
      (omega (arith, inside.0), omega (arith, inside.0))),
  rooms-image part kept now image (Some entry.high) entries area left inside.1 each.1,
)

-- each image of the area's blocks has room
pub area-room-image : (part : Keyed) (kept : Lengths) (now : Seen) → IsKeyedSound part now
    → KeepsRoom part kept now → (image : Image) → IsImageOn (InArea part) now.count now.may image
    → HasRoomHere part kept image
area-room-image part kept now sound room image left =
    let top : Block = block_at image part.head in
    let at_head : IsBlock part now part.head = head-block part now sound in
    let may : now.may part.head top = left.each part.head at_head.0 at_head.1 in
    rooms-image part kept now image (low_of top) (entries_of top) sound.area left
    (head-in part top (sound.heads top may)) (room.each top may)

-- each image of the part's blocks does
pub room-image : (shape : Shape) (owners : Owners) (kept : Lengths) (now : Seen)
    → IsSound shape owners now → HasKeptRoom shape kept now → (image : Image)
    → IsImageOn (InPart shape owners) now.count now.may image → HasRoom shape kept image
room-image (KeyedShape part) owners kept now sound room image left =
    let mine : (area : ℕ) → IsOwnedArea part owners area
    → IsImageOn (InArea (area_of part area)) now.count now.may image =
    λ area own. record { each = λ n below inside. left.each n below (own.owned n inside) } in
    each-after-image part (IsRoomyArea part owners kept now)
    (λ area. HasRoomHere (area_of part area) kept image) now.may image
    (λ area is. area-room-image (area_of part area) kept now is.0.1 is.1 image
    (mine area is.0.0))
    (λ area is. let at_head = head-block (area_of part area) now is.0.1 in
    (mine area is.0.0).each (head_of part area) at_head.0 at_head.1)
    (area_count part.geometry) part.first (roomy-each part owners kept now sound room)
room-image (NumberedShape part) owners kept now sound room image left =
    numbered-less part (IsOwnArea part owners) (IsFilled part) (IsOf image) now.may kept
    (λ area own n inside block is.
    let there = area-owned part owners now sound.on area own n inside in
    subst (now.may n) (sym is) (left.each n there.0 there.1)) sound.chain room

-- and so has that of each moment of a call that puts nothing
pub keeps-rooms : (tells : Bool) → IsTrue tells → (shape : Shape) (owners : Owners)
    (kept : Lengths) (a b : Seen)
    → Keeps tells a b → IsSound shape owners a → HasKeptRoom shape kept a
    → Touches (InPart shape owners) (HasRoom shape kept) a b
keeps-rooms tells told shape owners kept a b call sound room =
    keeps-touches tells (InPart shape owners) (HasRoom shape kept) a b told call
    (room-image shape owners kept a sound room)
