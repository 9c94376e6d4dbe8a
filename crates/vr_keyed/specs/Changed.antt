-- What a `set` or a stage of a split finds of a keyed part, and what it leaves. The rules are this
-- project's own.
use Rattle.std.specs.Prelude.{ℕ, List, [], Option, IfSome}
use Rattle.std.specs.Option.{option_map}
use Rattle.vr_types.specs.Content.Item.{Standing}
use Rattle.vr_types.specs.Regions.{Touches}
use Rattle.vr_types.specs.Seen.{Seen}
use Rattle.vr_space.specs.Areas.{ChainKeepsRoom, IsChainAtRest, KeyedChain}
use Rattle.vr_space.specs.Known.{Known}
use Rattle.vr_space.specs.Moves.{OwnsInto}
use Rattle.vr_space.specs.Owners.{Owners}
use Rattle.vr_space.specs.Part.{AddsTo, CanSet, DueMore, DueMoreAt, HasRoom, InPart, IsQuiet}
use Rattle.vr_space.specs.Part.{IsRecordOf, Just, KeyedShape, Knows, Nothing, SameRecords, SameStages, SetsOne}
use Rattle.vr_space.specs.Room.{Lengths}
use Rattle.vr_space.specs.Split.{MoveNow}

-- At rest, with room for what is kept, and this may be set at the place.
pub record IsReadyIn (part : KeyedChain) (known : Known) (kept : Lengths) (place : List ℕ)
    (bytes : Option (List ℕ)) (now : Seen) : Type 0 where
  pub rests : IsQuiet (KeyedShape part) now
  pub room : ChainKeepsRoom part kept now
  pub knows : Knows (KeyedShape part) known now
  pub can : CanSet (KeyedShape part) known now.cur kept place bytes
  pub valid : IfSome bytes (IsRecordOf (KeyedShape part) place)

-- Whether it failed or not: at most this is added at the place, and there is room for what is kept,
-- in the image of each moment and from then on.
pub record MaySetIn (part : KeyedChain) (kept : Lengths) (place : List ℕ)
    (bytes : Option (List ℕ)) (old new : Seen) : Type 0 where
  pub adds : (owners : Owners) → IsChainAtRest part owners old
      → AddsTo (KeyedShape part) owners (Just place (option_map Standing bytes)) old new
  pub room : ChainKeepsRoom part kept new
  pub rooms : (owners : Owners) → IsChainAtRest part owners old
      → Touches (InPart (KeyedShape part) owners) (HasRoom (KeyedShape part) kept) old new

-- It is set: these blocks have to be forced for it, and the part is at rest, with the split that
-- was under way.
pub record IsSetIn (part : KeyedChain) (known : Known) (put place : List ℕ)
    (bytes : Option (List ℕ)) (old new : Seen) : Type 0 where
  pub set : SetsOne (KeyedShape part) place bytes old.cur new.cur
  pub due : DueMoreAt (KeyedShape part) place put old new
  pub rests : (owners : Owners) → IsChainAtRest part owners old → IsChainAtRest part owners new
  pub knows : Knows (KeyedShape part) known new
  pub stages : SameStages (KeyedShape part) known known old.cur new.cur

-- A stage, whether it failed or not: nothing is added, each place has the record that it had, and
-- there is room for what is kept, in the image of each moment and from then on. What a split of an
-- area claimed before it is the part's own.
pub record KeepsIn (part : KeyedChain) (move : Option MoveNow) (kept : Lengths) (old new : Seen)
    : Type 0
  where
    pub adds : (owners : Owners) → IsChainAtRest part owners old → OwnsInto part owners move
        → AddsTo (KeyedShape part) owners Nothing old new
    pub same : SameRecords (KeyedShape part) old.cur new.cur
    pub room : ChainKeepsRoom part kept new
    pub rooms : (owners : Owners) → IsChainAtRest part owners old → OwnsInto part owners move
        → Touches (InPart (KeyedShape part) owners) (HasRoom (KeyedShape part) kept) old new

-- It is done: the part is at rest, with the split that is under way then, and nothing more has to
-- be forced than before.
pub record IsDoneIn (part : KeyedChain) (move : Option MoveNow) (known : Known) (old new : Seen)
    : Type 0
  where
    pub due : DueMore (KeyedShape part) [] old new
    pub rests : (owners : Owners) → IsChainAtRest part owners old → OwnsInto part owners move
        → IsChainAtRest part owners new
    pub knows : Knows (KeyedShape part) known new
