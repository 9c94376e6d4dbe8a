-- What a part keeps in memory of its blocks, with how many intervals it may keep.
use Rattle.std.proofs.Common.{ℕ, List, Option, Some, None, subst}
use Rattle.std.specs.Prelude.{◌≡◌}
use Rattle.vr_types.specs.Image.{Image}
use Rattle.vr_types.specs.Seen.{Seen}
use Rattle.vr_types.specs.declared.unit.StageKind.{StageKind}
use Rattle.vr_space.specs.Areas.{KeyedChain}
use Rattle.vr_space.specs.Known.{Known}
use Rattle.vr_space.specs.Met.{Met}
use Rattle.vr_space.specs.Part.{HasMore, HasRoomFor, KeyedShape, Knows}
use Rattle.vr_space.specs.Room.{Lengths}
use Rattle.vr_keyed.specs.Changed.{IsReadyIn}
use Rattle.vr_keyed.specs.Owned.{Owned, chain_of, known_by, known_of}

-- what it keeps of its blocks alone
abbrev pub known_less : Owned → Known
known_less keyed = known_by (chain_of keyed) keyed.split keyed.move keyed.met

-- It knows its blocks, however many it may keep,
pub knows-most : (part : KeyedChain) (known : Known) (most : ℕ) (now : Seen)
    → Knows (KeyedShape part) known now
    → Knows (KeyedShape part) (record known { most = most }) now
knows-most part known most now knows = record { way = knows.way; blocks = knows.blocks }

pub knows-less : (keyed : Owned) (now : Seen) → Knows (KeyedShape keyed.part) (known_of keyed) now
    → Knows (KeyedShape keyed.part) (known_less keyed) now
knows-less keyed now knows =
    knows-most keyed.part (known_of keyed) 0 now knows

-- has as many stages left,
pub more-most : (part : KeyedChain) (kind : StageKind) (old new : Known) (before after free now : ℕ)
    → HasMore (KeyedShape part) kind old new free now
    → HasMore (KeyedShape part) kind (record old { most = before }) (record new { most = after })
    free now
more-most part kind old new before after free now more =
    record { fewer = more.fewer; used = more.used }

room-less : (keyed : Owned) (image : Image) (kept : Lengths) (place : List ℕ)
    (bytes : Option (List ℕ))
    → HasRoomFor (KeyedShape keyed.part) (known_of keyed) image kept place bytes
    → HasRoomFor (KeyedShape keyed.part) (known_less keyed) image kept place bytes
room-less keyed image kept place None room = tt
room-less keyed image kept place (Some bytes) room = room

-- and the same may be set.
pub ready-less : (keyed : Owned) (kept : Lengths) (place : List ℕ) (bytes : Option (List ℕ))
    (now : Seen) → IsReadyIn keyed.part (known_of keyed) kept place bytes now
    → IsReadyIn keyed.part (known_less keyed) kept place bytes now
ready-less keyed kept place bytes now ready = record {
  rests = ready.rests;
  room = ready.room;
  knows = knows-less keyed now ready.knows;
  can = record {
    no_stage = ready.can.no_stage;
    room = room-less keyed now.cur kept place bytes ready.can.room;
  };
  valid = ready.valid;
}
