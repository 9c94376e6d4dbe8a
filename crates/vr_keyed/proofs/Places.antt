-- The area of a place of a keyed part: which one it is by what the part keeps in memory, and what
-- is there.
use Rattle.std.proofs.Common.{◌≡◌, ℕ, Bool, IsTrue, List, Some, subst, sym, ap, ◌∙◌}
use Rattle.std.specs.Prelude.{Contains, option_and_then}
use Rattle.std.specs.List.{slice_get}
use Rattle.std.proofs.lemmas.List.Elements.{Contains-get_or}
use Rattle.std.proofs.lemmas.Option.{get_or_from_slice_get, slice_get_within}
use Rattle.vr_types.specs.Blocks.{Keeps}
use Rattle.vr_types.specs.Content.{record_of}
use Rattle.vr_types.specs.Image.{Image}
use Rattle.vr_types.specs.Seen.{Seen}
use Rattle.vr_space.specs.AreaCalls.{read_here}
use Rattle.vr_space.specs.Areas.{KeyedChain, KnowsAreas, area_by, area_for, area_of}
use Rattle.vr_space.specs.Areas.{areas_in, content_in}
use Rattle.vr_space.specs.Keyed.{Keyed}
use Rattle.vr_space.specs.Part.{KeyedShape, Stands, record_read}
use Rattle.vr_space.proofs.CallerLemmas.{ComesTo, comes-to, here-stands}
use Rattle.vr_space.proofs.CallerLemmas.{item-of-area, knows-area}
use Rattle.vr_keyed.specs.Lent.{HasRoomFor}
use Rattle.vr_keyed.specs.Look.{AreaStands, HasEntry}
use Rattle.vr_keyed.specs.Slots.{IsSlotOf}
use Rattle.vr_keyed.specs.declared.slot.Slot.{Slot}
use Rattle.vr_split.specs.Weights.{LengthsRoom}

-- ---- which area it is

-- the first of those in memory that doesn't end before the place
pub area-known : (part : KeyedChain) (areas : List ℕ) (ends : List (List ℕ)) (image : Image)
    → KnowsAreas part areas ends image → (place : List ℕ) (area : ℕ)
    → area_by areas ends place ≡ Some area → area_for part image place ≡ Some area
area-known part areas ends image knows place area is =
    knows-area part areas ends image knows place ∙ is

module _ (part : KeyedChain) (image : Image) (stands : Stands (KeyedShape part) image)
    (place : List ℕ) (area : ℕ) (found : area_for part image place ≡ Some area) where
  pub place-comes : ComesTo part image place area
  place-comes = comes-to part image stands.0 stands.1 place area found

  -- Its blocks stand for a content,
  pub area-stands : AreaStands (area_of part area) image
  area-stands = (content_in part image area, place-comes.linked.stands)

  -- and its head has an entry for the place.
  pub entry-there : HasEntry (area_of part area) image place
  entry-there bytes = place-comes.entry

  -- The record that is read there is that of the part.
  pub read-there : record_read (KeyedShape part) image place
      ≡ read_here (area_of part area) image place
  read-there = ap (option_and_then record_of) (item-of-area part image place area found)

-- ---- the areas in memory

-- the area of a number is one of them
pub got-inside : (areas : List ℕ) (n area : ℕ) → slice_get areas n ≡ Some area
    → Contains areas area
got-inside areas n area is =
    subst (Contains areas) (get_or_from_slice_get areas n area area is)
    (Contains-get_or areas n area (slice_get_within areas n area is))

-- each of them is one of the chain
pub inside-known : (part : KeyedChain) (areas : List ℕ) (ends : List (List ℕ)) (image : Image)
    → KnowsAreas part areas ends image → (area : ℕ) → Contains areas area
    → Contains (areas_in part image) area
inside-known part areas ends image knows area =
    subst (λ (list : List ℕ). Contains list area) knows.areas_are

-- so its blocks stand for a content
pub known-stands : (part : KeyedChain) (areas : List ℕ) (ends : List (List ℕ)) (image : Image)
    → KnowsAreas part areas ends image → Stands (KeyedShape part) image → (area : ℕ)
    → Contains areas area → AreaStands (area_of part area) image
known-stands part areas ends image knows stands area inside = (
  content_in part image area,
  here-stands part image stands.0 stands.1 area
      (inside-known part areas ends image knows area inside),
)

-- and does after calls that put nothing, of the area of a number too
pub nth-stands : (part : KeyedChain) (areas : List ℕ) (ends : List (List ℕ)) (tells : Bool)
    (a b : Seen) → IsTrue tells → Keeps tells a b → KnowsAreas part areas ends a.cur
    → Stands (KeyedShape part) a.cur → (n area : ℕ) → slice_get areas n ≡ Some area
    → (layout : Keyed) → layout ≡ area_of part area → AreaStands layout b.cur
nth-stands part areas ends tells a b told call knows stands n area is layout same =
    subst (λ (one : Keyed). AreaStands one b.cur) (sym same)
    (subst (AreaStands (area_of part area)) (sym (call.content told))
    (known-stands part areas ends a.cur knows stands area (got-inside areas n area is)))

-- ---- any of the part's areas

-- What has room for one has it for each: they differ in their heads alone.
pub slot-any : (part : KeyedChain) (one other : ℕ) (slot : Slot) → IsSlotOf (area_of part one) slot
    → IsSlotOf (area_of part other) slot
slot-any part one other slot is =
    record { place = is.place; low = is.low; high = is.high; bytes = is.bytes }

pub weights-any : (part : KeyedChain) (one other : ℕ) (room : LengthsRoom)
    → HasRoomFor (area_of part one) room → HasRoomFor (area_of part other) room
weights-any part one other room is = record { count = is.count; bytes = is.bytes }
