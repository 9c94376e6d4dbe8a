-- A stage reads the head first, which keeps all that the part has: so what the put after it leaves,
-- the stage leaves.
use Rattle.std.proofs.Common.{ℕ, Bool, IsTrue, List, [], arith, sym, subst}
use Rattle.std.specs.Prelude.{Contains}
use Rattle.vr_types.specs.Blocks.{Keeps}
use Rattle.vr_types.specs.Image.{Image}
use Rattle.vr_types.specs.Seen.{Left, Seen}
use Rattle.vr_types.proofs.CallerLemmas.{touches-then}
use Rattle.vr_space.specs.Areas.{ChainKeepsRoom, IsChainAtRest, KeyedChain, KnowsAreas}
use Rattle.vr_space.specs.Areas.{areas_in, head_in}
use Rattle.vr_space.specs.Owners.{Owners}
use Rattle.vr_space.specs.Part.{HasRoom, InPart, IsQuiet, IsSound, KeyedShape, Nothing}
use Rattle.vr_space.specs.Room.{Lengths}
use Rattle.vr_space.proofs.CallerLemmas.{due-keeps, due-then, keeps-adds, keeps-rooms, nothing-then}
use Rattle.vr_space.proofs.CallerLemmas.{records-then, rest-here, rest-keeps, rest-sound}
use Rattle.vr_space.proofs.CallerLemmas.{room-keeps, same-keeps}
use Rattle.vr_casplit.specs.Growing.{IsGrowing, LeavesRecords, LeavesRest}
use Rattle.vr_space.specs.Split.{MoveNow}
use Rattle.vr_space.specs.Moves.{IsMoving}
use Rattle.vr_casplit.specs.Splits.{IsMovingHead}

module _ (tells : Bool) (told : IsTrue tells) (part : KeyedChain) (owners : Owners) (a m : Seen)
    (call : Keeps tells a m) (rests : IsChainAtRest part owners a) where
  sound : IsSound (KeyedShape part) owners a
  sound = rest-sound (KeyedShape part) owners a rests

  -- What reads alone leaves the records,
  pub read-leaves : (kept : Lengths) → ChainKeepsRoom part kept a
      → LeavesRecords part owners kept a m
  read-leaves kept room = record {
    adds = keeps-adds tells told (KeyedShape part) owners a m call sound;
    same = same-keeps tells told (KeyedShape part) a m call;
    room = room-keeps tells told (KeyedShape part) owners kept a m call sound room;
    rooms = keeps-rooms tells told (KeyedShape part) owners kept a m call sound room;
  }

  -- and the part at rest.
  pub read-rests : LeavesRest part owners a m
  read-rests = record {
    rests = rest-keeps tells told (KeyedShape part) owners a m call rests;
    due = due-keeps tells told (KeyedShape part) owners a m call sound;
  }

  -- What comes after leaves what it leaves of what was read.
  pub then-leaves : (kept : Lengths) (b : Seen) → ChainKeepsRoom part kept a
      → LeavesRecords part owners kept m b → LeavesRecords part owners kept a b
  then-leaves kept b room further =
      let first : LeavesRecords part owners kept a m = read-leaves kept room in
      record {
        adds = nothing-then (KeyedShape part) owners Nothing a m b first.adds further.adds;
        same = records-then (KeyedShape part) a.cur m.cur b.cur first.same further.same;
        room = further.room;
        rooms = touches-then (InPart (KeyedShape part) owners) (HasRoom (KeyedShape part) kept) a m
            b first.rooms further.rooms;
      }

  pub then-rests : (b : Seen) → LeavesRest part owners m b → LeavesRest part owners a b
  then-rests b further = record {
    rests = further.rests;
    due = due-then (KeyedShape part) [] a m b read-rests.due further.due;
  }

  pub grows-read : (into : ℕ) (kept : Lengths) → IsGrowing part into owners kept a
      → IsGrowing part into owners kept m
  grows-read into kept grows = record {
    rests = read-rests.rests;
    room = (read-leaves kept grows.room).room;
    own = grows.own;
    apart = subst (λ (image : Image). Contains (areas_in part image) into → ⊥)
        (sym (call.content told)) grows.apart;
  }

  pub knows-read : (areas : List ℕ) (ends : List (List ℕ)) → KnowsAreas part areas ends a.cur
      → KnowsAreas part areas ends m.cur
  knows-read areas ends =
      subst (λ (image : Image). KnowsAreas part areas ends image) (sym (call.content told))

-- What is read of a split under way is the head of its area.
pub moving-head : (part : KeyedChain) (move : MoveNow) (now : Seen) → IsQuiet (KeyedShape part) now
    → Left now now.cur → IsMoving part move now
    → IsMovingHead part move.area move.entries (head_in part now.cur move.area)
moving-head part move now quiet left moving =
    let rests = rest-here part quiet.0 now quiet.1 left move.area moving.inside in
    record {
      head = rests.sound.heads (head_in part now.cur move.area)
          (left.each _ (omega (arith, rests.sound.area)));
      count = moving.entries;
    }
