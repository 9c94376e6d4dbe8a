-- What a `set` finds of an area of a keyed part, and what it leaves. The rules are this project's
-- own.
use Rattle.std.specs.Prelude.{◌≡◌, ◌⊎◌, ◌≤◌, ℕ, List, [], ◌∷◌, Option, Some, None, IfSome, IsTrue}
use Rattle.std.specs.Prelude.{cond, length, nat_eq}
use Rattle.std.specs.Option.{option_map}
use Rattle.vr_types.specs.Content.Item.{Standing}
use Rattle.vr_types.specs.Image.{Block, Image, block_at}
use Rattle.vr_types.specs.Regions.{Touches}
use Rattle.vr_types.specs.Seen.{Seen}
use Rattle.vr_space.specs.Room.{Lengths, length_at}
use Rattle.vr_space.specs.Keyed.{HasEnds, InArea, IsKeyedAtRest, KeepsRoom, Keyed, entries_of}
use Rattle.vr_space.specs.Met.{Met}
use Rattle.vr_space.specs.Part.{Just}
use Rattle.vr_space.specs.AreaCalls.{AddsHere, DueMoreAtHere, HasRoomHere, SetsHere}
use Rattle.vr_space.specs.Split.{SplitNow, area_fits, area_stage}
use Rattle.vr_space.specs.UnderWay.{AreaUnderWay}
use Rattle.vr_keyed.specs.Setting.{IsRecordHere}

-- There is room for what is given: it has room at its place, or one that is at least as long is
-- kept there, or a record is taken away.
abbrev pub HasRoomToSet : Keyed → Image → Lengths → List ℕ → Option (List ℕ) → Type 0
HasRoomToSet part image kept place None = Unit {0}
HasRoomToSet part image kept place (Some bytes) =
    IsTrue (area_fits part image kept place (length bytes))
    ⊎ ((n : ℕ) × (length_at kept place ≡ Some n) × (length bytes ≤ n))

-- It may be set: no stage of a split is left at its place, and there is room for it.
pub record CanSetHere (part : Keyed) (split : Option SplitNow) (image : Image) (kept : Lengths)
    (place : List ℕ) (bytes : Option (List ℕ)) : Type 0 where
  pub no_stage : area_stage part split image place ≡ None
  pub room : HasRoomToSet part image kept place bytes

-- At rest, with room for what is kept, and this may be set at the place.
pub record IsReady (part : Keyed) (kept : Lengths) (split : Option SplitNow) (place : List ℕ)
    (bytes : Option (List ℕ)) (now : Seen) : Type 0 where
  pub rests : IsKeyedAtRest part now
  pub room : KeepsRoom part kept now
  pub way : AreaUnderWay part split now
  pub can : CanSetHere part split now.cur kept place bytes
  pub valid : IfSome bytes (IsRecordHere part place)

-- Whether it failed or not: at most this is added at the place; the head has the ends that it had,
-- and as many entries, and there is room for what is kept, in the image of each moment and from
-- then on.
pub record MaySet (part : Keyed) (kept : Lengths) (place : List ℕ) (bytes : Option (List ℕ))
    (old new : Seen) : Type 0 where
  pub adds : AddsHere part (Just place (option_map Standing bytes)) old new
  pub current : HasEnds (block_at old.cur part.head) (block_at new.cur part.head)
  pub counts : length (entries_of (block_at new.cur part.head))
      ≡ length (entries_of (block_at old.cur part.head))
  pub room : KeepsRoom part kept new
  pub rooms : Touches (InArea part) (HasRoomHere part kept) old new

-- It is set: these blocks have to be forced for it, and the area is at rest, with the split that
-- was under way.
pub record IsSetNow (part : Keyed) (split : Option SplitNow) (put place : List ℕ)
    (bytes : Option (List ℕ)) (old new : Seen) : Type 0 where
  pub set : SetsHere part place bytes old.cur new.cur
  pub due : DueMoreAtHere part place put old new
  pub rests : IsKeyedAtRest part new
  pub way : AreaUnderWay part split new
  pub head : block_at new.cur part.head ≡ block_at old.cur part.head

-- the blocks that were put
abbrev pub put_of : Option ℕ → List ℕ
put_of None = []
put_of (Some n) = n ∷ []

-- what was met of a block, once these bytes are put into block n
abbrev pub refreshed : ℕ → Block → Met → Met
refreshed n bytes met = record {
  place = met.place;
  range = met.range;
  number = met.number;
  block = cond (nat_eq met.number n) bytes met.block;
}

-- once these bytes are put into the block that was put, if one was
abbrev pub again : Option ℕ → Block → Met → Met
again None bytes met = met
again (Some n) bytes met = refreshed n bytes met
