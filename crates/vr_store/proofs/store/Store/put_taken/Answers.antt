use Rattle.std.proofs.Common.{◌<◌, ℕ, Option, None, IsTrue, refl, sym, ap, subst, map, set}
use Rattle.std.specs.Prelude.{All, IfSome}
use Rattle.std.proofs.lemmas.Result.{on_ok_weaker}
use Rattle.vr_types.specs.Moments.{Guards}
use Rattle.vr_space.specs.Known.{HasMet}
use Rattle.vr_space.specs.Part.{CanSet, IsGiven, IsPlaceOf, Shape, given}
use Rattle.vr_space.proofs.CallerLemmas.{held-same}
use Rattle.vr_undo.specs.Records.{images_in}
use Rattle.vr_volume.specs.Committed.{committed_by}
use Rattle.vr_volume.specs.PutBack.{lengths_kept}
use Rattle.vr_volume.specs.Safe.{IsSafeImage}
use Rattle.vr_volume.specs.Steps.{IsChangeOf, IsPutBack}
use Rattle.vr_store.specs.Change.{IsSettable}
use Rattle.vr_store.specs.PutBack.{IsTaken, IsTakenFrom, back_at}
use Rattle.vr_store.specs.Parts.{OnlyMet}
use Rattle.vr_store.specs.Store.{ChangedBy, IsSet, PartNow, StoreNow, changed_by, part_among}
use Rattle.vr_store.specs.Store.{left_among, owners_of, part_now, shape_among}
use Rattle.vr_store.proofs.PutBack.{stored-taken, taken-part, to-back}
use Rattle.vr_store.proofs.PartsAt.{laid-at, laid-found, none-laid, only-met, part-split}
use Rattle.vr_store.proofs.PartsAt.{same-met}
use Rattle.vr_store.proofs.Recorded.{at-shape, number-at, set-at}
use Rattle.vr_store.proofs.StoredAfter.{set-logged}
use Rattle.vr_store.proofs.Worked.{set-unclaimed}
use Rattle.vr_store.proofs.store.Store.put_taken.Goals as goal

pub set_back-requires-clause-on : goal.set_back-requires-clause-on
set_back-requires-clause-on g c =
    let shape = g.P.Part.shape in
    let known = g.P.Part.known in
    let inside = c.self.inside in
    let unit = c.args.unit in
    let number = c.args.number.0 in
    let place = c.args.place.now in
    let item = given c.args.bytes in
    let a = g.B.Blocks.seen c.args.blocks.now in
    let laid = c.index_mut.result.now in
    let v : StoreNow = record {
      log = inside.log;
      undo = inside.undo;
      parts = map (part_now shape known) inside.parts.items;
      changed = map changed_by inside.changed.items;
      space = inside.space;
    } in
    let before = part_now shape known laid in
    let found = laid-found shape known inside.parts.items number c.deref.result.now
    c.index_of.result v.parts c.deref.ensures.value refl c.index_of.ensures c.in-Some.at
    c.in-Some.is laid
    c.index_mut.ensures.value in
    let is-set = subst (λ (s : StoreNow). IsSet s a) (sym c.self.view_is) c.requires.set in
    (set-at v a is-set number before found).on

pub set_back-requires-clause-place : goal.set_back-requires-clause-place
set_back-requires-clause-place g c =
    let shape = g.P.Part.shape in
    let known = g.P.Part.known in
    let inside = c.self.inside in
    let unit = c.args.unit in
    let number = c.args.number.0 in
    let place = c.args.place.now in
    let item = given c.args.bytes in
    let a = g.B.Blocks.seen c.args.blocks.now in
    let laid = c.index_mut.result.now in
    let v : StoreNow = record {
      log = inside.log;
      undo = inside.undo;
      parts = map (part_now shape known) inside.parts.items;
      changed = map changed_by inside.changed.items;
      space = inside.space;
    } in
    let before = part_now shape known laid in
    let found = laid-found shape known inside.parts.items number c.deref.result.now
    c.index_of.result v.parts c.deref.ensures.value refl c.index_of.ensures c.in-Some.at
    c.in-Some.is laid
    c.index_mut.ensures.value in
    let is-set = subst (λ (s : StoreNow). IsSet s a) (sym c.self.view_is) c.requires.set in
    at-shape (λ (s : Shape). IsPlaceOf s place) v.parts number before found
    (subst (λ (s : StoreNow). IfSome (shape_among s.parts number) (λ s. IsPlaceOf s place))
    (sym c.self.view_is) c.requires.place)

pub set_back-requires-clause-item : goal.set_back-requires-clause-item
set_back-requires-clause-item g c =
    let shape = g.P.Part.shape in
    let known = g.P.Part.known in
    let inside = c.self.inside in
    let unit = c.args.unit in
    let number = c.args.number.0 in
    let place = c.args.place.now in
    let item = given c.args.bytes in
    let a = g.B.Blocks.seen c.args.blocks.now in
    let laid = c.index_mut.result.now in
    let v : StoreNow = record {
      log = inside.log;
      undo = inside.undo;
      parts = map (part_now shape known) inside.parts.items;
      changed = map changed_by inside.changed.items;
      space = inside.space;
    } in
    let before = part_now shape known laid in
    let found = laid-found shape known inside.parts.items number c.deref.result.now
    c.index_of.result v.parts c.deref.ensures.value refl c.index_of.ensures c.in-Some.at
    c.in-Some.is laid
    c.index_mut.ensures.value in
    let is-set = subst (λ (s : StoreNow). IsSet s a) (sym c.self.view_is) c.requires.set in
    at-shape (λ (s : Shape). IsGiven s place c.args.bytes) v.parts number before found
    (subst (λ (s : StoreNow). IfSome (shape_among s.parts number)
    (λ s. IsGiven s place c.args.bytes)) (sym c.self.view_is) c.requires.item)

pub set_back-requires-clause-rests : goal.set_back-requires-clause-rests
set_back-requires-clause-rests g c told =
    let shape = g.P.Part.shape in
    let known = g.P.Part.known in
    let inside = c.self.inside in
    let unit = c.args.unit in
    let number = c.args.number.0 in
    let place = c.args.place.now in
    let item = given c.args.bytes in
    let a = g.B.Blocks.seen c.args.blocks.now in
    let laid = c.index_mut.result.now in
    let v : StoreNow = record {
      log = inside.log;
      undo = inside.undo;
      parts = map (part_now shape known) inside.parts.items;
      changed = map changed_by inside.changed.items;
      space = inside.space;
    } in
    let before = part_now shape known laid in
    let found = laid-found shape known inside.parts.items number c.deref.result.now
    c.index_of.result v.parts c.deref.ensures.value refl c.index_of.ensures c.in-Some.at
    c.in-Some.is laid
    c.index_mut.ensures.value in
    let is-set = subst (λ (s : StoreNow). IsSet s a) (sym c.self.view_is) c.requires.set in
    let taken = λ (told : IsTrue g.B.Blocks.tells). subst (λ (s : StoreNow). IsTaken s unit a)
    (sym c.self.view_is) (c.requires.taken told) in
    let mine = λ (told : IsTrue g.B.Blocks.tells). taken-part (taken told).number v unit
    c.args.number place (taken told).state a is-set before found (taken told).from in
    (owners_of v, (mine told).rests)

pub set_back-requires-clause-room : goal.set_back-requires-clause-room
set_back-requires-clause-room g c told =
    let shape = g.P.Part.shape in
    let known = g.P.Part.known in
    let inside = c.self.inside in
    let unit = c.args.unit in
    let number = c.args.number.0 in
    let place = c.args.place.now in
    let item = given c.args.bytes in
    let a = g.B.Blocks.seen c.args.blocks.now in
    let laid = c.index_mut.result.now in
    let v : StoreNow = record {
      log = inside.log;
      undo = inside.undo;
      parts = map (part_now shape known) inside.parts.items;
      changed = map changed_by inside.changed.items;
      space = inside.space;
    } in
    let before = part_now shape known laid in
    let found = laid-found shape known inside.parts.items number c.deref.result.now
    c.index_of.result v.parts c.deref.ensures.value refl c.index_of.ensures c.in-Some.at
    c.in-Some.is laid
    c.index_mut.ensures.value in
    let is-set = subst (λ (s : StoreNow). IsSet s a) (sym c.self.view_is) c.requires.set in
    let taken = λ (told : IsTrue g.B.Blocks.tells). subst (λ (s : StoreNow). IsTaken s unit a)
    (sym c.self.view_is) (c.requires.taken told) in
    let mine = λ (told : IsTrue g.B.Blocks.tells). taken-part (taken told).number v unit
    c.args.number place (taken told).state a is-set before found (taken told).from in
    (mine told).room

pub set_back-requires-clause-knows : goal.set_back-requires-clause-knows
set_back-requires-clause-knows g c told =
    let shape = g.P.Part.shape in
    let known = g.P.Part.known in
    let inside = c.self.inside in
    let unit = c.args.unit in
    let number = c.args.number.0 in
    let place = c.args.place.now in
    let item = given c.args.bytes in
    let a = g.B.Blocks.seen c.args.blocks.now in
    let laid = c.index_mut.result.now in
    let v : StoreNow = record {
      log = inside.log;
      undo = inside.undo;
      parts = map (part_now shape known) inside.parts.items;
      changed = map changed_by inside.changed.items;
      space = inside.space;
    } in
    let before = part_now shape known laid in
    let found = laid-found shape known inside.parts.items number c.deref.result.now
    c.index_of.result v.parts c.deref.ensures.value refl c.index_of.ensures c.in-Some.at
    c.in-Some.is laid
    c.index_mut.ensures.value in
    let is-set = subst (λ (s : StoreNow). IsSet s a) (sym c.self.view_is) c.requires.set in
    let taken = λ (told : IsTrue g.B.Blocks.tells). subst (λ (s : StoreNow). IsTaken s unit a)
    (sym c.self.view_is) (c.requires.taken told) in
    let mine = λ (told : IsTrue g.B.Blocks.tells). taken-part (taken told).number v unit
    c.args.number place (taken told).state a is-set before found (taken told).from in
    (mine told).knows

pub set_back-requires-clause-can : goal.set_back-requires-clause-can
set_back-requires-clause-can g c told =
    let shape = g.P.Part.shape in
    let known = g.P.Part.known in
    let inside = c.self.inside in
    let unit = c.args.unit in
    let number = c.args.number.0 in
    let place = c.args.place.now in
    let item = given c.args.bytes in
    let a = g.B.Blocks.seen c.args.blocks.now in
    let laid = c.index_mut.result.now in
    let v : StoreNow = record {
      log = inside.log;
      undo = inside.undo;
      parts = map (part_now shape known) inside.parts.items;
      changed = map changed_by inside.changed.items;
      space = inside.space;
    } in
    let before = part_now shape known laid in
    let found = laid-found shape known inside.parts.items number c.deref.result.now
    c.index_of.result v.parts c.deref.ensures.value refl c.index_of.ensures c.in-Some.at
    c.in-Some.is laid
    c.index_mut.ensures.value in
    let is-set = subst (λ (s : StoreNow). IsSet s a) (sym c.self.view_is) c.requires.set in
    subst (λ (n : ℕ). CanSet before.shape before.known a.cur
    (lengths_kept (images_in v.undo) n) place item)
    (sym (number-at v a is-set number before found))
    (subst (λ (one : Option PartNow). IfSome one (λ (part : PartNow). CanSet part.shape
    part.known a.cur (lengths_kept (images_in v.undo) number) place item)) found
    (subst (λ (s : StoreNow). IsSettable s a.cur number place item) (sym c.self.view_is)
    (c.requires.can told)))

pub returns-clause-back : goal.returns-clause-back
returns-clause-back g c told =
    let shape = g.P.Part.shape in
    let known = g.P.Part.known in
    let inside = c.self.inside in
    let unit = c.args.unit in
    let number = c.args.number.0 in
    let place = c.args.place.now in
    let item = given c.args.bytes in
    let a = g.B.Blocks.seen c.args.blocks.now in
    let laid = c.index_mut.result.now in
    let v : StoreNow = record {
      log = inside.log;
      undo = inside.undo;
      parts = map (part_now shape known) inside.parts.items;
      changed = map changed_by inside.changed.items;
      space = inside.space;
    } in
    let before = part_now shape known laid in
    let found = laid-found shape known inside.parts.items number c.deref.result.now
    c.index_of.result v.parts c.deref.ensures.value refl c.index_of.ensures c.in-Some.at
    c.in-Some.is laid
    c.index_mut.ensures.value in
    let is-set = subst (λ (s : StoreNow). IsSet s a) (sym c.self.view_is) c.requires.set in
    let now = part_now shape known
    (record { number = laid.number; part = c.set_back.new.part }) in
    let parts = map (part_now shape known) (set inside.parts.items c.in-Some.at
    (record { number = laid.number; part = c.set_back.new.part })) in
    let at = laid-at shape known inside.parts.items number c.deref.result.now
    c.index_of.result v.parts c.deref.ensures.value refl c.index_of.ensures c.in-Some.at
    c.in-Some.is laid
    (record { number = laid.number; part = c.set_back.new.part }) c.index_mut.ensures.value in
    let changed = map changed_by c.set_back.new.changed.items in
    let b = g.B.Blocks.seen c.set_back.new.blocks in
    let same = ap (λ (s : Shape). part-split laid.number s None) c.set_back.ensures.part in
    on_ok_weaker c.set_back.result
    (λ back volume was old new from of put.
    let by = subst (λ (s : StoreNow). IsTakenFrom volume s unit old a) (sym c.self.view_is) from in
    let its = subst (λ (s : StoreNow). IsChangeOf s.log.geometry old
    (back_at unit c.args.number place was (left_among s.parts number old place item)))
    (sym c.self.view_is) of in
    let puts = subst (λ (s : StoreNow). IsPutBack
    (back_at unit c.args.number place was (left_among s.parts number old place item)) old new)
    (sym c.self.view_is) put in
    stored-taken volume v unit c.args.number place old a is-set before found by was item new its
    puts b changed parts now at same
    (back volume (owners_of v) old new
    (back_at unit c.args.number place was (left_among v.parts number old place item))
    (to-back volume v unit c.args.number place old a is-set before found by was item new its puts))
    c.set_back.ensures.had c.set_back.ensures.others)
    (c.set_back.ensures.back told)

pub returns-clause-moments : goal.returns-clause-moments
returns-clause-moments g c told volume was old new from of put =
    let shape = g.P.Part.shape in
    let known = g.P.Part.known in
    let inside = c.self.inside in
    let unit = c.args.unit in
    let number = c.args.number.0 in
    let place = c.args.place.now in
    let item = given c.args.bytes in
    let a = g.B.Blocks.seen c.args.blocks.now in
    let laid = c.index_mut.result.now in
    let v : StoreNow = record {
      log = inside.log;
      undo = inside.undo;
      parts = map (part_now shape known) inside.parts.items;
      changed = map changed_by inside.changed.items;
      space = inside.space;
    } in
    let before = part_now shape known laid in
    let found = laid-found shape known inside.parts.items number c.deref.result.now
    c.index_of.result v.parts c.deref.ensures.value refl c.index_of.ensures c.in-Some.at
    c.in-Some.is laid
    c.index_mut.ensures.value in
    let is-set = subst (λ (s : StoreNow). IsSet s a) (sym c.self.view_is) c.requires.set in
    let by = subst (λ (s : StoreNow). IsTakenFrom volume s unit old a) (sym c.self.view_is) from in
    let its = subst (λ (s : StoreNow). IsChangeOf s.log.geometry old
    (back_at unit c.args.number place was (left_among s.parts number old place item)))
    (sym c.self.view_is) of in
    let puts = subst (λ (s : StoreNow). IsPutBack
    (back_at unit c.args.number place was (left_among s.parts number old place item)) old new)
    (sym c.self.view_is) put in
    subst (λ (s : StoreNow). Guards a (g.B.Blocks.seen c.set_back.new.blocks)
    (IsSafeImage s.log.geometry volume (owners_of s) s.log (committed_by old))) c.self.view_is
    (c.set_back.ensures.moments told volume (owners_of v) old new
    (back_at unit c.args.number place was (left_among v.parts number old place item))
    (to-back volume v unit c.args.number place old a is-set before found by was item new its puts))

pub returns-clause-set : goal.returns-clause-set
returns-clause-set g c =
    let shape = g.P.Part.shape in
    let known = g.P.Part.known in
    let inside = c.self.inside in
    let unit = c.args.unit in
    let number = c.args.number.0 in
    let place = c.args.place.now in
    let item = given c.args.bytes in
    let a = g.B.Blocks.seen c.args.blocks.now in
    let laid = c.index_mut.result.now in
    let v : StoreNow = record {
      log = inside.log;
      undo = inside.undo;
      parts = map (part_now shape known) inside.parts.items;
      changed = map changed_by inside.changed.items;
      space = inside.space;
    } in
    let before = part_now shape known laid in
    let found = laid-found shape known inside.parts.items number c.deref.result.now
    c.index_of.result v.parts c.deref.ensures.value refl c.index_of.ensures c.in-Some.at
    c.in-Some.is laid
    c.index_mut.ensures.value in
    let is-set = subst (λ (s : StoreNow). IsSet s a) (sym c.self.view_is) c.requires.set in
    let now = part_now shape known
    (record { number = laid.number; part = c.set_back.new.part }) in
    let parts = map (part_now shape known) (set inside.parts.items c.in-Some.at
    (record { number = laid.number; part = c.set_back.new.part })) in
    let at = laid-at shape known inside.parts.items number c.deref.result.now
    c.index_of.result v.parts c.deref.ensures.value refl c.index_of.ensures c.in-Some.at
    c.in-Some.is laid
    (record { number = laid.number; part = c.set_back.new.part }) c.index_mut.ensures.value in
    let changed = map changed_by c.set_back.new.changed.items in
    let b = g.B.Blocks.seen c.set_back.new.blocks in
    let same = ap (λ (s : Shape). part-split laid.number s None) c.set_back.ensures.part in
    set-logged (record v { parts = parts }) v.log changed b refl is-set.sound is-set.idle
    (subst (λ (count : ℕ). All (λ (by : ChangedBy). All (λ n. n < count) by.blocks) changed)
    (sym c.set_back.ensures.count) (c.set_back.ensures.each is-set.changed))
    (set-unclaimed v number before now parts v.space at same a b c.set_back.ensures.count
    c.set_back.ensures.size
    (held-same before.shape before.known now.known c.set_back.ensures.areas
    c.set_back.ensures.moves) refl is-set)

pub returns-clause-parts : goal.returns-clause-parts
returns-clause-parts g c =
    let shape = g.P.Part.shape in
    let known = g.P.Part.known in
    let inside = c.self.inside in
    let unit = c.args.unit in
    let number = c.args.number.0 in
    let place = c.args.place.now in
    let item = given c.args.bytes in
    let a = g.B.Blocks.seen c.args.blocks.now in
    let laid = c.index_mut.result.now in
    let v : StoreNow = record {
      log = inside.log;
      undo = inside.undo;
      parts = map (part_now shape known) inside.parts.items;
      changed = map changed_by inside.changed.items;
      space = inside.space;
    } in
    let before = part_now shape known laid in
    let found = laid-found shape known inside.parts.items number c.deref.result.now
    c.index_of.result v.parts c.deref.ensures.value refl c.index_of.ensures c.in-Some.at
    c.in-Some.is laid
    c.index_mut.ensures.value in
    let is-set = subst (λ (s : StoreNow). IsSet s a) (sym c.self.view_is) c.requires.set in
    let now = part_now shape known
    (record { number = laid.number; part = c.set_back.new.part }) in
    let parts = map (part_now shape known) (set inside.parts.items c.in-Some.at
    (record { number = laid.number; part = c.set_back.new.part })) in
    let at = laid-at shape known inside.parts.items number c.deref.result.now
    c.index_of.result v.parts c.deref.ensures.value refl c.index_of.ensures c.in-Some.at
    c.in-Some.is laid
    (record { number = laid.number; part = c.set_back.new.part }) c.index_mut.ensures.value in
    let changed = map changed_by c.set_back.new.changed.items in
    let b = g.B.Blocks.seen c.set_back.new.blocks in
    let same = ap (λ (s : Shape). part-split laid.number s None) c.set_back.ensures.part in
    subst (λ (s : StoreNow). OnlyMet number s.parts parts) c.self.view_is
    (only-met number before now v.parts parts at refl
    (same-met laid.number before.shape now.shape before.known now.known c.set_back.ensures.part
    c.set_back.ensures.split c.set_back.ensures.moves c.set_back.ensures.areas
    c.set_back.ensures.used))

pub returns-clause-reads : goal.returns-clause-reads
returns-clause-reads g c asked =
    let shape = g.P.Part.shape in
    let known = g.P.Part.known in
    let inside = c.self.inside in
    let unit = c.args.unit in
    let number = c.args.number.0 in
    let place = c.args.place.now in
    let item = given c.args.bytes in
    let a = g.B.Blocks.seen c.args.blocks.now in
    let laid = c.index_mut.result.now in
    let v : StoreNow = record {
      log = inside.log;
      undo = inside.undo;
      parts = map (part_now shape known) inside.parts.items;
      changed = map changed_by inside.changed.items;
      space = inside.space;
    } in
    let before = part_now shape known laid in
    let found = laid-found shape known inside.parts.items number c.deref.result.now
    c.index_of.result v.parts c.deref.ensures.value refl c.index_of.ensures c.in-Some.at
    c.in-Some.is laid
    c.index_mut.ensures.value in
    let is-set = subst (λ (s : StoreNow). IsSet s a) (sym c.self.view_is) c.requires.set in
    c.set_back.ensures.reads
    (subst (λ (one : Option PartNow). IfSome one (λ (part : PartNow). HasMet part.known place))
    found
    (subst (λ (s : StoreNow). IfSome (part_among s.parts number) (λ part. HasMet part.known place))
    (sym c.self.view_is) asked))

pub unreachable-requires : goal.unreachable-requires
unreachable-requires g c =
    c.requires.part (none-laid g.P.Part.shape g.P.Part.known c.self.inside.parts.items
    c.args.number.0 c.deref.result.now c.index_of.result c.args.self.now.parts
    c.deref.ensures.value (ap (λ (s : StoreNow). s.parts) c.self.view_is)
    c.index_of.ensures c.in-None.is)
