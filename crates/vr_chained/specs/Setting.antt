-- What a `set` finds of a part, and what it leaves. The rules are this project's own.
use Rattle.std.specs.Prelude.{◌≡◌, ℕ, ◌+◌, Bool, true, false, not, List, [], ◌∷◌, length, Option}
use Rattle.std.specs.Prelude.{Some, None, IfSome, cond, nat_eq, bytes_eq, if◌then◌else◌, ◌&&◌}
use Rattle.vr_types.specs.Fields.{four}
use Rattle.vr_types.specs.Image.{Block}
use Rattle.vr_types.specs.Regions.{Touches}
use Rattle.vr_types.specs.Seen.{Seen}
use Rattle.vr_space.specs.Room.{Lengths}
use Rattle.vr_space.specs.Known.{Known}
use Rattle.vr_space.specs.Met.{Met}
use Rattle.vr_space.specs.Owners.{Owners}
use Rattle.vr_space.specs.Part.{AddsTo, CanSet, DueMoreAt, HasKeptRoom, HasRoom, InPart, IsAtRest}
use Rattle.vr_space.specs.Part.{IsQuiet, IsRecordOf, Just, NumberedShape, SetsOne, item_of}
use Rattle.vr_space.specs.Entries.{Tail, address_after}
use Rattle.vr_space.specs.Numbered.{KnowsTail, at_in, interval_of, left_in}
use Rattle.vr_space.specs.Rosters.{Numbered}

-- the room that the items before it need in its interval
abbrev pub room_before : Numbered → Option Tail → List ℕ → ℕ
room_before part None place = 0
room_before part (Some tail) place =
    if nat_eq tail.interval (interval_of part place) then tail.room else 0

-- where the last item ends once a record is set at a place: it is the last one, where the place is
-- that of the next record
abbrev pub tail_at : Numbered → Option Tail → List ℕ → ℕ → Tail
tail_at part tail place n = record {
  interval = interval_of part place;
  bytes = at_in part place + n;
  room = room_before part tail place + (n + 3);
}

abbrev pub tail_by : Bool → Numbered → Option Tail → List ℕ → ℕ → Option Tail
tail_by true part tail place n = Some (tail_at part tail place n)
tail_by false part tail place n = tail

abbrev pub tail_set : Numbered → Option Tail → List ℕ → Option (List ℕ) → Option Tail
tail_set part tail place None = tail
tail_set part tail place (Some bytes) =
    tail_by (not part.relative && bytes_eq place (four (address_after part tail (length bytes))))
    part tail place (length bytes)

-- At rest, with room for what is kept, and this may be set at the place; it is known where the last
-- item ends.
pub record IsReady (part : Numbered) (kept : Lengths) (known : Known) (place : List ℕ)
    (bytes : Option (List ℕ)) (now : Seen) : Type 0 where
  pub rests : IsQuiet (NumberedShape part) now
  pub room : HasKeptRoom (NumberedShape part) kept now
  pub can : CanSet (NumberedShape part) known now.cur kept place bytes
  pub valid : IfSome bytes (IsRecordOf (NumberedShape part) place)
  pub tail : KnowsTail part.relative part now.cur known.tail

-- Whether it failed or not: at most this is added at the place, and there is room for what is kept,
-- in the image of each moment and from then on.
pub record MaySet (part : Numbered) (kept : Lengths) (place : List ℕ) (bytes : Option (List ℕ))
    (old new : Seen) : Type 0 where
  pub adds : (owners : Owners) → IsAtRest (NumberedShape part) owners old
      → AddsTo (NumberedShape part) owners (Just place (left_in part.relative
      (item_of (NumberedShape part) old.cur place) bytes)) old new
  pub room : HasKeptRoom (NumberedShape part) kept new
  pub rooms : (owners : Owners) → IsAtRest (NumberedShape part) owners old
      → Touches (InPart (NumberedShape part) owners) (HasRoom (NumberedShape part) kept) old new

-- It is set: these blocks have to be forced for it, and the part is at rest.
pub record IsSetNow (part : Numbered) (known : Known) (put place : List ℕ)
    (bytes : Option (List ℕ)) (old new : Seen) : Type 0 where
  pub set : SetsOne (NumberedShape part) place bytes old.cur new.cur
  pub due : DueMoreAt (NumberedShape part) place put old new
  -- where no block was put, a record was to be taken away, and none is there
  pub none : put ≡ [] → bytes ≡ None
  pub rests : (owners : Owners) → IsAtRest (NumberedShape part) owners old
      → IsAtRest (NumberedShape part) owners new
  -- the last item ends where it did, or where the one ends that is set
  pub tail : KnowsTail part.relative part new.cur (tail_set part known.tail place bytes)

-- the blocks that were put
abbrev pub put_of : Option ℕ → List ℕ
put_of None = []
put_of (Some n) = n ∷ []

-- what was met of a block, once these bytes are put into block n
abbrev pub refreshed : ℕ → Block → Met → Met
refreshed n bytes met = record {
  place = met.place;
  range = met.range;
  number = met.number;
  block = cond (nat_eq met.number n) bytes met.block;
}
