-- What stands at a place, and what a call leaves there: of keyed and relative parts, of which
-- nothing is withdrawn, a record, or nothing.
use Rattle.std.proofs.Common.{◌≡◌, List, ℕ, Bool, true, false, [], ◌∷◌, Option, Some, None, refl}
use Rattle.std.proofs.Common.{ap, map, subst, sym}
use Rattle.std.specs.Prelude.{option_and_then}
use Rattle.std.specs.Option.{option_map}
use Rattle.std.specs.declared.cmp.Ordering.{Ordering}
use Rattle.std.specs.declared.cmp.Ordering.TheVariants.{Less, Equal, Greater}
use Rattle.vr_types.specs.Content.{Item, found_by, item_at, place_cmp, record_of}
use Rattle.vr_types.specs.Content.Item.{Standing}
use Rattle.vr_types.specs.Geometry.{area_count}
use Rattle.vr_types.specs.Image.{Image, block_at}
use Rattle.vr_ci.specs.Interval as ci
use Rattle.vr_seqset.specs.Entry.{Entry}
use Rattle.vr_space.specs.Areas.{KeyedChain, area_for, area_of, head_in}
use Rattle.vr_space.specs.Keyed.{Keyed, entry_block, entry_in, items_of, placed}
use Rattle.vr_space.specs.Keyed.{way_in}
use Rattle.vr_space.specs.Numbered.{left_in}
use Rattle.vr_space.specs.Part.{KeyedShape, NumberedShape, Shape, WithdrawsNone, item_of, left_by}
use Rattle.vr_space.specs.Part.{record_read}
use Rattle.vr_space.specs.Room.{Range}
use Rattle.vr_space.specs.Way.{found_on}
use Rattle.vr_space.proofs.LinkedContent.{found-area, item_by}
use Rattle.vr_space.proofs.NumberedReads.{slot-stands}

-- an item is a record that stands, or there is none
abbrev IsRecord : Option Item → Type 0
IsRecord item = item ≡ option_map Standing (option_and_then record_of item)

by-order : (order : Ordering) (bytes : List ℕ) (further : Option Item) → IsRecord further
    → IsRecord (found_by order (Some (Standing bytes)) further)
by-order Less bytes further is = is
by-order Equal bytes further is = refl
by-order Greater bytes further is = is

items-stand : (part : Keyed) (items : List ci.Item) (place : List ℕ)
    → IsRecord (item_at (map (placed part) items) place)
items-stand part [] place = refl
items-stand part (item ∷ items) place =
    by-order (place_cmp place (placed part item).0) item.bytes
    (item_at (map (placed part) items) place) (items-stand part items place)

way-stands : (part : Keyed) (image : Image) (place : List ℕ) (found : Option (Range × Entry))
    → IsRecord (found_on image (way_in part place found))
way-stands part image place None = refl
way-stands part image place (Some at) =
    items-stand part (items_of (block_at image (entry_block part at.1))) place

area-stands : (part : KeyedChain) (image : Image) (place : List ℕ) (found : Option ℕ)
    → IsRecord (item_by part image place found)
area-stands part image place None = refl
area-stands part image place (Some area) =
    way-stands (area_of part area) image place (entry_in (head_in part image area) place)

-- what is at a place is the record that is read there
pub item-read : (shape : Shape) (image : Image) (place : List ℕ) → WithdrawsNone shape
    → item_of shape image place ≡ option_map Standing (record_read shape image place)
item-read (KeyedShape part) image place none = subst IsRecord
    (sym (found-area part image place (area_count part.geometry) part.first))
    (area-stands part image place (area_for part image place))
item-read (NumberedShape part) image place relative = slot-stands part image place relative

-- and what a call leaves there is the record that it gives
pub left-is : (shape : Shape) (now : Option Item) (bytes : Option (List ℕ)) → WithdrawsNone shape
    → left_by shape now bytes ≡ option_map Standing bytes
left-is (KeyedShape part) now bytes none = refl
left-is (NumberedShape part) now bytes relative =
    ap (λ (b : Bool). left_in b now bytes) relative

-- ---- of any part

-- a record that is given to a place stands there
left-given : (relative : Bool) (now : Option Item) (bytes : List ℕ)
    → left_in relative now (Some bytes) ≡ Some (Standing bytes)
left-given true now bytes = refl
left-given false now bytes = refl

pub left-standing : (shape : Shape) (now : Option Item) (bytes : List ℕ)
    → left_by shape now (Some bytes) ≡ Some (Standing bytes)
left-standing (KeyedShape part) now bytes = refl
left-standing (NumberedShape part) now bytes = left-given part.relative now bytes

-- what was withdrawn is no record
left-taken : (relative : Bool) (now : Option Item)
    → option_and_then record_of (left_in relative now None) ≡ None
left-taken true now = refl
left-taken false None = refl
left-taken false (Some item) = refl

-- what is read there is the record that is given, or nothing
pub left-none : (shape : Shape) (now : Option Item) (bytes : Option (List ℕ))
    → option_and_then record_of (left_by shape now bytes) ≡ bytes
left-none (KeyedShape part) now None = refl
left-none (KeyedShape part) now (Some bytes) = refl
left-none (NumberedShape part) now None = left-taken part.relative now
left-none (NumberedShape part) now (Some bytes) =
    ap (option_and_then record_of) (left-given part.relative now bytes)
