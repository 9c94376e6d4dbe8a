-- A `set` after a call that puts nothing.
use Rattle.std.proofs.Common.{◌≡◌, ℕ, Bool, IsTrue, List, Option, sym, ap, subst, ◌∙◌, arith}
use Rattle.std.proofs.Common.{length}
use Rattle.std.specs.Option.{option_map}
use Rattle.vr_types.specs.Content.Item.{Standing}
use Rattle.vr_types.specs.Image.{Block, Image, block_at}
use Rattle.vr_types.specs.Seen.{Seen, Left}
use Rattle.vr_types.specs.Blocks.{Keeps}
use Rattle.vr_types.proofs.CallerLemmas.{touches-then}
use Rattle.vr_space.specs.Room.{Lengths}
use Rattle.vr_space.specs.Keyed.{HasEnds, InArea, IsHead, KeepsRoom, Keyed, entries_of}
use Rattle.vr_space.specs.Part.{Just, Nothing}
use Rattle.vr_space.specs.AreaCalls.{HasRoomHere, SetsHere}
use Rattle.vr_space.specs.Split.{SplitNow}
use Rattle.vr_space.proofs.CallerLemmas.{adds-here-weaken, due-at-here-then, due-here-keeps}
use Rattle.vr_space.proofs.CallerLemmas.{keeps-here, nothing-then-here, rest-here-keeps}
use Rattle.vr_space.proofs.CallerLemmas.{room-here-keeps, rooms-here-keep}
use Rattle.vr_keyed.specs.Ready.{CanSetHere, IsReady, MaySet, IsSetNow}
use Rattle.vr_keyed.proofs.Keeping.{way-still}
use Rattle.vr_keyed.proofs.Reading.{still-current, still-head}

module _ (part : Keyed) (kept : Lengths) (split : Option SplitNow) (place : List ℕ)
    (item : Option (List ℕ)) (tells : Bool) (told : IsTrue tells) (a m : Seen)
    (call : Keeps tells a m) (left : Left a a.cur) (ready : IsReady part kept split place item a)
  where
    now-head : IsHead part (block_at a.cur part.head)
    now-head = ready.rests.sound.heads (block_at a.cur part.head)
        (left.each part.head (omega (arith, ready.rests.sound.area)))

    room-now : KeepsRoom part kept m
    room-now = room-here-keeps tells told part a m call ready.rests.sound kept ready.room

    pub ready-keeps : IsReady part kept split place item m
    ready-keeps = record {
      rests = rest-here-keeps tells told part a m call ready.rests;
      room = room-now;
      way = way-still part tells told a m call ready.rests.sound.area now-head split
          ready.way;
      can = subst (λ (image : Image). CanSetHere part split image kept place item)
          (sym (call.content told)) ready.can;
      valid = ready.valid;
    }

    -- where nothing more is done
    pub may-keeps : MaySet part kept place item a m
    may-keeps = record {
      adds = adds-here-weaken part Nothing (Just place (option_map Standing item)) a m
          (keeps-here tells told part a m call ready.rests.sound) (λ p i none. absurd none);
      current = still-current part tells told a m call;
      counts = ap (λ (top : Block). length (entries_of top)) (still-head part tells told a m call);
      room = room-now;
      rooms = rooms-here-keep tells told part a m call ready.rests.sound kept ready.room;
    }

    pub may-then : (b : Seen) → MaySet part kept place item m b → MaySet part kept place item a b
    may-then b may = record {
      adds = nothing-then-here part (Just place (option_map Standing item)) a m b
          (keeps-here tells told part a m call ready.rests.sound) may.adds;
      current = subst (λ (top : Block). HasEnds top (block_at b.cur part.head))
          (still-head part tells told a m call) may.current;
      counts = may.counts
          ∙ ap (λ (top : Block). length (entries_of top)) (still-head part tells told a m call);
      room = may.room;
      rooms = touches-then (InArea part) (HasRoomHere part kept) a m b
          (rooms-here-keep tells told part a m call ready.rests.sound kept ready.room) may.rooms;
    }

    pub done-then : (b : Seen) (put : List ℕ) → IsSetNow part split put place item m b
        → IsSetNow part split put place item a b
    done-then b put done = record {
      set = subst (λ (image : Image). SetsHere part place item image b.cur)
          (call.content told) done.set;
      due = due-at-here-then part place put a m b
          (due-here-keeps tells told part a m call ready.rests.sound) done.due;
      rests = done.rests;
      way = done.way;
      head = done.head ∙ still-head part tells told a m call;
    }
