use Rattle.std.proofs.Common.{◌≡◌, refl, ap, map, set, None}
use Rattle.std.proofs.Common.{IsTrue}
use Rattle.std.specs.Prelude.{IfSome}
use Rattle.std.proofs.lemmas.Result.{IfOk-weaker}
use Rattle.vr_space.specs.Known.{HasMet, MeetsPlace}
use Rattle.vr_space.specs.Part.{IsLengthOf, IsPlaceOf, Shape, part_no}
use Rattle.vr_space.specs.declared.room.Room.{Room}
use Rattle.vr_space.proofs.CallerLemmas.{held-same}
use Rattle.vr_store.specs.Parts.{but_split}
use Rattle.vr_store.specs.Room.{IsRoomAt}
use Rattle.vr_store.specs.Store.{PartNow, StoreNow, changed_by, part_among, part_now, store_of}
use Rattle.vr_store.proofs.PartsAt.{found-new, laid-at, laid-found, none-laid, only-met, part-split}
use Rattle.vr_store.proofs.PartsAt.{same-met}
use Rattle.vr_store.proofs.Recorded.{at-part, at-shape, number-at, rested-at, set-at, stand-at}
use Rattle.vr_store.proofs.Rooms.{room-at, room-still, room_by}
use Rattle.vr_store.proofs.Worked.{set-unclaimed, stored-met}
use Rattle.vr_store.proofs.stage.ask_at.Goals as goal

pub room-requires : goal.room-requires
room-requires g c =
    let shape = g.P.Part.shape in
    let known = g.P.Part.known in
    let store : StoreNow = store_of shape known c.args.log.now c.args.undo.now
    c.args.parts.now.items c.args.changed.now.items c.args.space.now in
    let a = g.B.Blocks.seen c.args.blocks.now in
    let laid = c.index_mut.result.now in
    let number = c.args.number.0 in
    let part = part_now shape known laid in
    let found = laid-found shape known c.args.parts.now.items number c.deref.result.now
    c.index_of.result store.parts c.deref.ensures.value
    refl c.index_of.ensures c.in-Some.at c.in-Some.is
    laid c.index_mut.ensures.value in
    record {
      on = (set-at store a c.requires.set number part found).on;
      place = at-shape (λ (s : Shape). IsPlaceOf s c.args.place.now) store.parts number part found
          c.requires.place;
      length = at-shape (λ (s : Shape). IsLengthOf s c.args.length) store.parts number part found
          c.requires.length;
      stands = λ told. stand-at store a c.requires.set number part found
          (g.met.B.Blocks.cur_may c.args.blocks.now told) (c.requires.stands told);
      room = λ told.
          let stands = c.requires.stands told in
          (rested-at store a c.requires.set stands.number stands.state number part found
          stands.stored).room;
      knows = λ told.
          let stands = c.requires.stands told in
          (rested-at store a c.requires.set stands.number stands.state number part found
          stands.stored).knows;
    }

pub unreachable-requires : goal.unreachable-requires
unreachable-requires g c = c.requires.part
    (none-laid g.P.Part.shape g.P.Part.known c.args.parts.now.items c.args.number.0
    c.deref.result.now c.index_of.result (map (part_now g.P.Part.shape g.P.Part.known)
    c.args.parts.now.items) c.deref.ensures.value
    refl c.index_of.ensures c.in-None.is)

pub returns : goal.returns
returns g c =
    let shape = g.P.Part.shape in
    let known = g.P.Part.known in
    let tells = g.B.Blocks.tells in
    let store : StoreNow = store_of shape known c.args.log.now c.args.undo.now
    c.args.parts.now.items c.args.changed.now.items c.args.space.now in
    let a = g.B.Blocks.seen c.args.blocks.now in
    let b = g.B.Blocks.seen c.room.new.blocks in
    let laid = c.index_mut.result.now in
    let number = c.args.number.0 in
    let place = c.args.place.now in
    let length = c.args.length in
    let before = part_now shape known laid in
    let after = part_now shape known
    (record { number = laid.number; part = c.room.new.self }) in
    let at = laid-at shape known c.args.parts.now.items number c.deref.result.now c.index_of.result
    store.parts c.deref.ensures.value refl
    c.index_of.ensures c.in-Some.at c.in-Some.is laid
    (record { number = laid.number; part = c.room.new.self }) c.index_mut.ensures.value in
    let parts = map (part_now shape known) (set c.args.parts.now.items c.in-Some.at
    (record { number = laid.number; part = c.room.new.self })) in
    let new : StoreNow = record {
      log = c.args.log.now;
      undo = c.args.undo.now;
      parts = parts;
      changed = map changed_by c.args.changed.now.items;
      space = c.args.space.now;
    } in
    let there = found-new number before after store.parts parts at refl in
    let same = ap (λ (s : Shape). but_split (part-split laid.number s None)) c.room.ensures.shape in
    let answer = λ (told : IsTrue tells). IfOk-weaker c.room.result
    (λ (room : Room). room ≡ room_by before.shape before.known a.cur c.args.space.now
    c.args.undo.now (part_no before.shape).0 place length)
    (λ (room : Room). IsRoomAt store a.cur number place length room)
    (room-at store c.args.space.now c.args.undo.now refl refl number before at.found
    (number-at store a c.requires.set number before at.found) a.cur place length)
    (c.room.ensures.answer told) in
    record {
      answer = answer;
      still = λ told. IfOk-weaker c.room.result
          (λ (room : Room). IsRoomAt store a.cur number place length room)
          (λ (room : Room). IsRoomAt new b.cur number place length room)
          (room-still store new number before after a.cur b.cur at.found there
          c.room.ensures.shape c.room.ensures.split c.room.ensures.moves c.room.ensures.tail refl
          refl (c.room.ensures.keeps.content told) place length)
          (answer told);
      met = IfOk-weaker c.room.result
          (λ room. MeetsPlace place before.known after.known)
          _
          (λ room is. at-part (λ (one : PartNow). HasMet one.known place) parts number after there
          is.here)
          c.room.ensures.met;
      next = IfOk-weaker c.room.result
          (λ room. MeetsPlace place before.known after.known)
          _
          (λ room is. at-part (λ (one : PartNow). IfSome (part_among parts number)
          (λ (next : PartNow). MeetsPlace place one.known next.known))
          store.parts number before at.found
          (at-part (λ (next : PartNow). MeetsPlace place before.known next.known) parts number
          after there is))
          c.room.ensures.met;
      set = set-unclaimed store number before after parts store.space at same a b
          c.room.ensures.keeps.count_same c.room.ensures.keeps.size_same
          (held-same before.shape before.known after.known c.room.ensures.areas
          c.room.ensures.moves) refl c.requires.set;
      stored = λ told volume state stored. stored-met tells told a b c.room.ensures.keeps
          (g.met.B.Blocks.cur_may c.args.blocks.now told) store number before after parts
          at same c.room.ensures.moves volume state c.requires.set stored
          (c.room.ensures.knows told);
      parts = only-met number before after store.parts parts at refl
          (same-met laid.number before.shape after.shape before.known after.known
          c.room.ensures.shape c.room.ensures.split c.room.ensures.moves c.room.ensures.areas
          c.room.ensures.used);
      keeps = c.room.ensures.keeps;
      cause = c.room.ensures.cause;
    }
