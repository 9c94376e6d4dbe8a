use Rattle.std.proofs.Common.{◌≡◌, ◌≢◌, ◌<◌, ℕ, Option, None, Result, Ok, Err, IfErr, IsTrue}
use Rattle.std.proofs.Common.{refl, sym, ap, subst, ◌∙◌, map, set}
use Rattle.std.specs.Prelude.{All, IfSome}
use Rattle.std.specs.Result.{IsErrAnd}
use Rattle.vr_types.specs.Content.{Item}
use Rattle.vr_types.specs.Moments.{Guards}
use Rattle.vr_space.specs.Known.{HasMet}
use Rattle.vr_space.specs.Part.{CanSet, IsGiven, IsPlaceOf, Shape, given}
use Rattle.vr_space.proofs.CallerLemmas.{held-same}
use Rattle.vr_attach.proofs.CallerLemmas.{owner-past-log}
use Rattle.vr_log.specs.Live.{live_in}
use Rattle.vr_log.specs.declared.no.LogNo.{LogNo}
use Rattle.vr_log.specs.declared.no.LogNo.TheVariants.{Read}
use Rattle.vr_undo.specs.Records.{images_in}
use Rattle.vr_volume.specs.Committed.{committed_by}
use Rattle.vr_volume.specs.PutBack.{lengths_kept}
use Rattle.vr_volume.specs.Safe.{IsSafeImage}
use Rattle.vr_store.specs.Change.{IsMadeOf, IsReady, IsReadyBy, IsSettable, log_with, need_with}
use Rattle.vr_store.specs.Parts.{OnlyMet}
use Rattle.vr_store.specs.Store.{ChangedBy, IsSet, PartNow, StoreNow, changed_by, part_among}
use Rattle.vr_store.specs.Store.{left_among, owners_of, part_now, shape_among}
use Rattle.vr_store.proofs.Fits.{ends-before, idle-made}
use Rattle.vr_store.proofs.PartsAt.{laid-at, laid-found, none-laid, only-met, part-split}
use Rattle.vr_store.proofs.PartsAt.{same-met}
use Rattle.vr_store.proofs.ReadyParts.{change, kept, left-item, made-state, rested, room-to, to-any}
use Rattle.vr_store.proofs.ReadyParts.{to-set}
use Rattle.vr_store.proofs.Recorded.{at-shape, number-at, set-at}
use Rattle.vr_store.proofs.StoredAfter.{set-logged, stored-made}
use Rattle.vr_store.proofs.Worked.{set-unclaimed}
use Rattle.vr_store.proofs.store.Store.make.Goals as goal

pub set_at-requires : goal.set_at-requires
set_at-requires g c =
    let shape = g.P.Part.shape in
    let known = g.P.Part.known in
    let inside = c.self.inside in
    let unit = c.args.unit in
    let number = c.args.number.0 in
    let place = c.args.place.now in
    let prepared = c.args.prepared.now in
    let item = given c.args.bytes in
    let a = g.B.Blocks.seen c.args.blocks.now in
    let laid = c.index_mut.result.now in
    let v : StoreNow = record {
      log = inside.log;
      undo = inside.undo;
      parts = map (part_now shape known) inside.parts.items;
      changed = map changed_by inside.changed.items;
      space = inside.space;
    } in
    let before = part_now shape known laid in
    let found = laid-found shape known inside.parts.items number c.deref.result.now
    c.index_of.result v.parts c.deref.ensures.value refl c.index_of.ensures c.in-Some.at
    c.in-Some.is laid
    c.index_mut.ensures.value in
    let is-set = subst (λ (s : StoreNow). IsSet s a) (sym c.self.view_is) c.requires.set in
    let at-place = at-shape (λ (s : Shape). IsPlaceOf s place) v.parts number before found
    (subst (λ (s : StoreNow). IfSome (shape_among s.parts number) (λ s. IsPlaceOf s place))
    (sym c.self.view_is) c.requires.place) in
    let some = λ (told : IsTrue g.B.Blocks.tells). subst (λ (s : StoreNow).
    IsReady s unit c.args.number place prepared a) (sym c.self.view_is) (c.requires.ready told) in
    let mine = λ (told : IsTrue g.B.Blocks.tells).
    rested (some told).number v unit c.args.number place prepared (some told).was
    (some told).state a (some told).ready before found is-set at-place item in
    record {
      sound = is-set.sound;
      shape = is-set.blocks;
      lengths = c.requires.lengths;
      live = ends-before prepared.rec (live_in v.log.records) c.requires.before;
      stands = λ told. (some told).ready.kept.stored.volume.stands;
      on = (set-at v a is-set number before found).on;
      place = at-place;
      item = at-shape (λ (s : Shape). IsGiven s place c.args.bytes) v.parts number before found
          (subst (λ (s : StoreNow). IfSome (shape_among s.parts number)
          (λ s. IsGiven s place c.args.bytes)) (sym c.self.view_is) c.requires.item);
      rests = λ told. (
        owners_of v,
        owner-past-log v.log.geometry v.space,
        (mine told).rests,
        (mine told).claimed,
      );
      room = λ told. room-to v.log.geometry (some told).number (owners_of v) v.log
          (kept (some told).number v unit c.args.number place prepared (some told).was (some told).state a (some told).ready
          before found is-set at-place item)
          (images_in v.undo) (some told).state
          (made-state (some told).number v unit c.args.number place prepared (some told).was (some told).state a (some told).ready
          before found is-set at-place item)
          (change (some told).number v unit c.args.number place prepared (some told).was (some told).state a (some told).ready
          before found is-set at-place item)
          prepared before.shape before.known place item a
          (to-any (some told).number v unit c.args.number place prepared (some told).was (some told).state a (some told).ready
          before found is-set at-place item)
          (g.met.B.Blocks.cur_may c.args.blocks.now told) at-place;
      knows = λ told. (mine told).knows;
      can = λ told. subst (λ (n : ℕ). CanSet before.shape before.known a.cur
          (lengths_kept (images_in v.undo) n) place item)
          (sym (number-at v a is-set number before found))
          (subst (λ (one : Option PartNow). IfSome one (λ (part : PartNow). CanSet part.shape
          part.known a.cur (lengths_kept (images_in v.undo) number) place item)) found
          (subst (λ (s : StoreNow). IsSettable s a.cur number place item) (sym c.self.view_is)
          (c.requires.can told)));
    }

pub returns-in_err-set_at-in-Some-clause-moments : goal.returns-in_err-set_at-in-Some-clause-moments
returns-in_err-set_at-in-Some-clause-moments g c told volume was old ready =
    let shape = g.P.Part.shape in
    let known = g.P.Part.known in
    let inside = c.self.inside in
    let unit = c.args.unit in
    let number = c.args.number.0 in
    let place = c.args.place.now in
    let prepared = c.args.prepared.now in
    let item = given c.args.bytes in
    let a = g.B.Blocks.seen c.args.blocks.now in
    let laid = c.index_mut.result.now in
    let v : StoreNow = record {
      log = inside.log;
      undo = inside.undo;
      parts = map (part_now shape known) inside.parts.items;
      changed = map changed_by inside.changed.items;
      space = inside.space;
    } in
    let before = part_now shape known laid in
    let found = laid-found shape known inside.parts.items number c.deref.result.now
    c.index_of.result v.parts c.deref.ensures.value refl c.index_of.ensures c.in-Some.at
    c.in-Some.is laid
    c.index_mut.ensures.value in
    let is-set = subst (λ (s : StoreNow). IsSet s a) (sym c.self.view_is) c.requires.set in
    let at-place = at-shape (λ (s : Shape). IsPlaceOf s place) v.parts number before found
    (subst (λ (s : StoreNow). IfSome (shape_among s.parts number) (λ s. IsPlaceOf s place))
    (sym c.self.view_is) c.requires.place) in
    let by = subst (λ (s : StoreNow). IsReadyBy volume s unit c.args.number place prepared was old a)
    (sym c.self.view_is) ready in
    subst (λ (s : StoreNow). Guards a (g.B.Blocks.seen c.set_at.new.blocks)
    (IsSafeImage s.log.geometry volume (owners_of s) (log_with prepared.logged s.log prepared.rec)
    (committed_by old))) c.self.view_is
    (c.set_at.ensures.moments told volume (owners_of v) old
    (made-state volume v unit c.args.number place prepared was old a by
    before found is-set at-place item)
    (change volume v unit c.args.number place prepared was old a by
    before found is-set at-place item)
    (kept volume v unit c.args.number place prepared was old a by
    before found is-set at-place item)
    (to-any volume v unit c.args.number place prepared was old a by
    before found is-set at-place item))

pub returns-clause-moments : goal.returns-clause-moments
returns-clause-moments g c told volume was old ready =
    let shape = g.P.Part.shape in
    let known = g.P.Part.known in
    let inside = c.self.inside in
    let unit = c.args.unit in
    let number = c.args.number.0 in
    let place = c.args.place.now in
    let prepared = c.args.prepared.now in
    let item = given c.args.bytes in
    let a = g.B.Blocks.seen c.args.blocks.now in
    let laid = c.index_mut.result.now in
    let v : StoreNow = record {
      log = inside.log;
      undo = inside.undo;
      parts = map (part_now shape known) inside.parts.items;
      changed = map changed_by inside.changed.items;
      space = inside.space;
    } in
    let before = part_now shape known laid in
    let found = laid-found shape known inside.parts.items number c.deref.result.now
    c.index_of.result v.parts c.deref.ensures.value refl c.index_of.ensures c.in-Some.at
    c.in-Some.is laid
    c.index_mut.ensures.value in
    let is-set = subst (λ (s : StoreNow). IsSet s a) (sym c.self.view_is) c.requires.set in
    let at-place = at-shape (λ (s : Shape). IsPlaceOf s place) v.parts number before found
    (subst (λ (s : StoreNow). IfSome (shape_among s.parts number) (λ s. IsPlaceOf s place))
    (sym c.self.view_is) c.requires.place) in
    let by = subst (λ (s : StoreNow). IsReadyBy volume s unit c.args.number place prepared was old a)
    (sym c.self.view_is) ready in
    subst (λ (s : StoreNow). Guards a (g.B.Blocks.seen c.set_at.new.blocks)
    (IsSafeImage s.log.geometry volume (owners_of s) (log_with prepared.logged s.log prepared.rec)
    (committed_by old))) c.self.view_is
    (c.set_at.ensures.moments told volume (owners_of v) old
    (made-state volume v unit c.args.number place prepared was old a by
    before found is-set at-place item)
    (change volume v unit c.args.number place prepared was old a by
    before found is-set at-place item)
    (kept volume v unit c.args.number place prepared was old a by
    before found is-set at-place item)
    (to-any volume v unit c.args.number place prepared was old a by
    before found is-set at-place item))

pub returns-clause-made : goal.returns-clause-made
returns-clause-made g c told volume was old after need ready made needs =
    let shape = g.P.Part.shape in
    let known = g.P.Part.known in
    let inside = c.self.inside in
    let unit = c.args.unit in
    let number = c.args.number.0 in
    let place = c.args.place.now in
    let prepared = c.args.prepared.now in
    let item = given c.args.bytes in
    let a = g.B.Blocks.seen c.args.blocks.now in
    let laid = c.index_mut.result.now in
    let v : StoreNow = record {
      log = inside.log;
      undo = inside.undo;
      parts = map (part_now shape known) inside.parts.items;
      changed = map changed_by inside.changed.items;
      space = inside.space;
    } in
    let before = part_now shape known laid in
    let found = laid-found shape known inside.parts.items number c.deref.result.now
    c.index_of.result v.parts c.deref.ensures.value refl c.index_of.ensures c.in-Some.at
    c.in-Some.is laid
    c.index_mut.ensures.value in
    let is-set = subst (λ (s : StoreNow). IsSet s a) (sym c.self.view_is) c.requires.set in
    let at-place = at-shape (λ (s : Shape). IsPlaceOf s place) v.parts number before found
    (subst (λ (s : StoreNow). IfSome (shape_among s.parts number) (λ s. IsPlaceOf s place))
    (sym c.self.view_is) c.requires.place) in
    let now = part_now shape known (record { number = laid.number; part = c.set_at.new.part }) in
    let parts = map (part_now shape known) (set inside.parts.items c.in-Some.at
    (record { number = laid.number; part = c.set_at.new.part })) in
    let at = laid-at shape known inside.parts.items number c.deref.result.now
    c.index_of.result v.parts c.deref.ensures.value refl c.index_of.ensures c.in-Some.at
    c.in-Some.is laid
    (record { number = laid.number; part = c.set_at.new.part }) c.index_mut.ensures.value in
    let changed = map changed_by c.set_at.new.changed.items in
    let b = g.B.Blocks.seen c.set_at.new.blocks in
    let ensured = c.in_ok-set_at-in-Some.ensures in
    let by = subst (λ (s : StoreNow). IsReadyBy volume s unit c.args.number place prepared was old a)
    (sym c.self.view_is) ready in
    let need-is = needs ∙ ap (λ (s : StoreNow). need_with prepared.logged s.log prepared.rec)
    (sym c.self.view_is) in
    let its = subst (λ (new : Option Item). IsMadeOf unit c.args.number place new need old after)
    (ap (λ (s : StoreNow). left_among s.parts number old place item) (sym c.self.view_is)
    ∙ left-item volume v unit c.args.number place prepared was old a by before found is-set at-place
    item) made in
    stored-made volume v unit c.args.number place prepared was old a by
    before found is-set at-place item need after its need-is
    (g.met.B.Blocks.cur_may c.args.blocks.now told) b c.set_at.new.log changed parts now at refl
    ensured.part
    (ensured.made told volume (owners_of v) old after
    (change volume v unit c.args.number place prepared was old a by
    before found is-set at-place item)
    (kept volume v unit c.args.number place prepared was old a by
    before found is-set at-place item)
    (to-set volume v unit c.args.number place prepared was old a by
    before found is-set at-place item need after its need-is))
    c.set_at.ensures.had c.set_at.ensures.others

pub returns-clause-set : goal.returns-clause-set
returns-clause-set g c =
    let shape = g.P.Part.shape in
    let known = g.P.Part.known in
    let inside = c.self.inside in
    let unit = c.args.unit in
    let number = c.args.number.0 in
    let place = c.args.place.now in
    let prepared = c.args.prepared.now in
    let item = given c.args.bytes in
    let a = g.B.Blocks.seen c.args.blocks.now in
    let laid = c.index_mut.result.now in
    let v : StoreNow = record {
      log = inside.log;
      undo = inside.undo;
      parts = map (part_now shape known) inside.parts.items;
      changed = map changed_by inside.changed.items;
      space = inside.space;
    } in
    let before = part_now shape known laid in
    let found = laid-found shape known inside.parts.items number c.deref.result.now
    c.index_of.result v.parts c.deref.ensures.value refl c.index_of.ensures c.in-Some.at
    c.in-Some.is laid
    c.index_mut.ensures.value in
    let is-set = subst (λ (s : StoreNow). IsSet s a) (sym c.self.view_is) c.requires.set in
    let at-place = at-shape (λ (s : Shape). IsPlaceOf s place) v.parts number before found
    (subst (λ (s : StoreNow). IfSome (shape_among s.parts number) (λ s. IsPlaceOf s place))
    (sym c.self.view_is) c.requires.place) in
    let now = part_now shape known (record { number = laid.number; part = c.set_at.new.part }) in
    let parts = map (part_now shape known) (set inside.parts.items c.in-Some.at
    (record { number = laid.number; part = c.set_at.new.part })) in
    let at = laid-at shape known inside.parts.items number c.deref.result.now
    c.index_of.result v.parts c.deref.ensures.value refl c.index_of.ensures c.in-Some.at
    c.in-Some.is laid
    (record { number = laid.number; part = c.set_at.new.part }) c.index_mut.ensures.value in
    let changed = map changed_by c.set_at.new.changed.items in
    let b = g.B.Blocks.seen c.set_at.new.blocks in
    let ensured = c.in_ok-set_at-in-Some.ensures in
    set-logged (record v { parts = parts }) c.set_at.new.log changed b ensured.geometry ensured.sound
    (idle-made inside.log c.set_at.new.log prepared.logged prepared.rec c.requires.before
    ensured.records is-set.idle)
    (subst (λ (count : ℕ). All (λ (by : ChangedBy). All (λ n. n < count) by.blocks) changed)
    (sym ensured.count) (c.set_at.ensures.each is-set.changed))
    (set-unclaimed v number before now parts v.space at
    (ap (λ (s : Shape). part-split laid.number s None) ensured.part)
    a b ensured.count ensured.size
    (held-same before.shape before.known now.known ensured.areas ensured.moves) refl is-set)

pub returns-clause-parts : goal.returns-clause-parts
returns-clause-parts g c =
    let shape = g.P.Part.shape in
    let known = g.P.Part.known in
    let inside = c.self.inside in
    let unit = c.args.unit in
    let number = c.args.number.0 in
    let place = c.args.place.now in
    let prepared = c.args.prepared.now in
    let item = given c.args.bytes in
    let a = g.B.Blocks.seen c.args.blocks.now in
    let laid = c.index_mut.result.now in
    let v : StoreNow = record {
      log = inside.log;
      undo = inside.undo;
      parts = map (part_now shape known) inside.parts.items;
      changed = map changed_by inside.changed.items;
      space = inside.space;
    } in
    let before = part_now shape known laid in
    let found = laid-found shape known inside.parts.items number c.deref.result.now
    c.index_of.result v.parts c.deref.ensures.value refl c.index_of.ensures c.in-Some.at
    c.in-Some.is laid
    c.index_mut.ensures.value in
    let is-set = subst (λ (s : StoreNow). IsSet s a) (sym c.self.view_is) c.requires.set in
    let at-place = at-shape (λ (s : Shape). IsPlaceOf s place) v.parts number before found
    (subst (λ (s : StoreNow). IfSome (shape_among s.parts number) (λ s. IsPlaceOf s place))
    (sym c.self.view_is) c.requires.place) in
    let now = part_now shape known (record { number = laid.number; part = c.set_at.new.part }) in
    let parts = map (part_now shape known) (set inside.parts.items c.in-Some.at
    (record { number = laid.number; part = c.set_at.new.part })) in
    let at = laid-at shape known inside.parts.items number c.deref.result.now
    c.index_of.result v.parts c.deref.ensures.value refl c.index_of.ensures c.in-Some.at
    c.in-Some.is laid
    (record { number = laid.number; part = c.set_at.new.part }) c.index_mut.ensures.value in
    let changed = map changed_by c.set_at.new.changed.items in
    let b = g.B.Blocks.seen c.set_at.new.blocks in
    let ensured = c.in_ok-set_at-in-Some.ensures in
    subst (λ (s : StoreNow). OnlyMet number s.parts parts) c.self.view_is
    (only-met number before now v.parts parts at refl
    (same-met laid.number before.shape now.shape before.known now.known ensured.part ensured.split
    ensured.moves ensured.areas ensured.used))

err-as : (result : Result (Unit {0}) LogNo) (cause : LogNo) (P : LogNo → Type 0)
    → IsErrAnd result (λ answer. answer ≡ cause) → P cause → IfErr result P
err-as (Ok value) cause P is holds = tt
err-as (Err answer) cause P is holds = subst P (sym is) holds

pub returns-in_err-set_at-in-Some-clause-reads : goal.returns-in_err-set_at-in-Some-clause-reads
returns-in_err-set_at-in-Some-clause-reads g c asked =
    let shape = g.P.Part.shape in
    let known = g.P.Part.known in
    let inside = c.self.inside in
    let unit = c.args.unit in
    let number = c.args.number.0 in
    let place = c.args.place.now in
    let prepared = c.args.prepared.now in
    let item = given c.args.bytes in
    let a = g.B.Blocks.seen c.args.blocks.now in
    let laid = c.index_mut.result.now in
    let v : StoreNow = record {
      log = inside.log;
      undo = inside.undo;
      parts = map (part_now shape known) inside.parts.items;
      changed = map changed_by inside.changed.items;
      space = inside.space;
    } in
    let before = part_now shape known laid in
    let found = laid-found shape known inside.parts.items number c.deref.result.now
    c.index_of.result v.parts c.deref.ensures.value refl c.index_of.ensures c.in-Some.at
    c.in-Some.is laid
    c.index_mut.ensures.value in
    let is-set = subst (λ (s : StoreNow). IsSet s a) (sym c.self.view_is) c.requires.set in
    let at-place = at-shape (λ (s : Shape). IsPlaceOf s place) v.parts number before found
    (subst (λ (s : StoreNow). IfSome (shape_among s.parts number) (λ s. IsPlaceOf s place))
    (sym c.self.view_is) c.requires.place) in
    let here : HasMet before.known place =
    subst (λ (one : Option PartNow). IfSome one (λ (part : PartNow). HasMet part.known place)) found
    (subst (λ (s : StoreNow). IfSome (part_among s.parts number) (λ part. HasMet part.known place))
    (sym c.self.view_is) asked) in
    err-as c.from_residual.result c.in_err-set_at-in-Some.field-0.0 (λ no. no ≢ Read)
    c.from_residual.ensures.1 (c.in_err-set_at-in-Some.ensures.reads here)

pub unreachable-requires : goal.unreachable-requires
unreachable-requires g c =
    c.requires.part (none-laid g.P.Part.shape g.P.Part.known c.self.inside.parts.items
    c.args.number.0 c.deref.result.now c.index_of.result c.args.self.now.parts
    c.deref.ensures.value (ap (λ (s : StoreNow). s.parts) c.self.view_is)
    c.index_of.ensures c.in-None.is)
