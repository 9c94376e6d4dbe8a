use Rattle.std.proofs.Common.{[], List, ap, refl, sym, subst}
use Rattle.std.specs.Prelude.{Result, Ok, Err, OnOk, IfErr}
use Rattle.std.specs.Option.{option_copied}
use Rattle.vr_types.proofs.CallerLemmas.{keeps-none}
use Rattle.vr_types.specs.Moments.{Guards}
use Rattle.vr_volume.specs.Crashes.{RecoversTo}
use Rattle.vr_store.specs.Change.{IsMadeOf}
use Rattle.vr_store.specs.Store.{IsStored, PartNow, StoreNow, left_among}
use Rattle.vr_store.proofs.CallerLemmas.{moments-keeps}
use Rattle.vr_event.specs.Putting.{need_at}
use Rattle.vr_event.proofs.Puts.{final-is, final-stored, needs, ready-by, settable-kept}
use Rattle.vr_event.proofs.Recovering.{stored-recovers}
use Rattle.vr_event.proofs.putting.put_at_place.Goals as goal

pub returns-in_err-prepared-clause-moments : goal.returns-in_err-prepared-clause-moments
returns-in_err-prepared-clause-moments g c told volume state to =
    let now = g.B.Blocks.seen c.args.blocks.now in
    stored-recovers volume c.args.store.now state now now to.stored
    (moments-keeps g.B.Blocks.tells told now now (keeps-none g.B.Blocks.tells now
    (λ told image is. g.met.B.Blocks.images_may c.args.blocks.now image told is))
    volume c.args.store.now state to.stored)

pub returns-clause-moments : goal.returns-clause-moments
returns-clause-moments g c told volume state to =
    let now = g.B.Blocks.seen c.args.blocks.now in
    stored-recovers volume c.args.store.now state now now to.stored
    (moments-keeps g.B.Blocks.tells told now now (keeps-none g.B.Blocks.tells now
    (λ told image is. g.met.B.Blocks.images_may c.args.blocks.now image told is))
    volume c.args.store.now state to.stored)

pub make_kept-requires-clause-ready : goal.make_kept-requires-clause-ready
make_kept-requires-clause-ready g c told =
    let has = c.requires.ready told in
    record {
      number = has.number;
      was = option_copied c.args.old;
      state = has.state;
      ready = ready-by c.args.store.now c.keep.new.self (g.B.Blocks.seen c.args.blocks.now)
          c.args.unit c.args.part c.args.place.now (option_copied c.args.old)
          c.in_ok-prepared.prepared c.keep.ensures.rest c.keep.ensures.blocks
          c.in_ok-prepared.ensures.undo c.in_ok-prepared.ensures.prepared has.number has.state
          has.to;
    }

pub make_kept-requires-clause-can : goal.make_kept-requires-clause-can
make_kept-requires-clause-can g c told =
    let has = c.requires.ready told in
    settable-kept c.args.store.now c.keep.new.self (g.B.Blocks.seen c.args.blocks.now)
    c.args.unit c.args.part c.args.place.now (option_copied c.args.old)
    c.in_ok-prepared.prepared c.keep.ensures.rest c.keep.ensures.blocks
    c.in_ok-prepared.ensures.undo c.in_ok-prepared.ensures.prepared has.number has.state has.to
    (c.keep.ensures.set c.requires.set) (g.met.B.Blocks.cur_may c.args.blocks.now told)
    c.requires.at.place_of _ (c.requires.can told)

on-ok : {X E : Type 0} {A B : Type 0} (result : Result X E) → OnOk result A → (A → B)
    → OnOk result B
on-ok (Ok x) a f = f a
on-ok (Err e) a f = tt

pub returns-in-Ok-clause-made : goal.returns-in-Ok-clause-made
returns-in-Ok-clause-made g c told = on-ok c.make_kept.result (c.make_kept.ensures.made told)
    (λ made volume state after to is.
    let prepared = c.in_ok-prepared.ensures in
    made volume (option_copied c.args.old) state after _
    (ready-by c.args.store.now c.keep.new.self (g.B.Blocks.seen c.args.blocks.now)
    c.args.unit c.args.part c.args.place.now (option_copied c.args.old)
    c.in_ok-prepared.prepared c.keep.ensures.rest c.keep.ensures.blocks prepared.undo
    prepared.prepared volume state to)
    (subst (λ (parts : List PartNow). IsMadeOf c.args.unit c.args.part c.args.place.now
    (left_among parts c.args.part.0 state c.args.place.now (option_copied c.args.new))
    (need_at c.args.store.now c.args.unit c.args.part c.args.place.now
    (option_copied c.args.old)) state after)
    (sym (ap (λ (s : StoreNow). s.parts) c.keep.ensures.rest)) is)
    (needs c.args.store.now c.keep.new.self (g.B.Blocks.seen c.args.blocks.now)
    c.args.unit c.args.part c.args.place.now (option_copied c.args.old)
    c.in_ok-prepared.prepared c.keep.ensures.rest c.keep.ensures.blocks prepared.undo
    prepared.prepared))

pub returns-in-Ok-clause-moments : goal.returns-in-Ok-clause-moments
returns-in-Ok-clause-moments g c told volume state to =
    let prepared = c.in_ok-prepared.ensures in
    let a = g.B.Blocks.seen c.args.blocks.now in
    let b = g.B.Blocks.seen c.make_kept.new.blocks in
    subst (λ (s : StoreNow). Guards a b (RecoversTo s.log.geometry volume state []))
    c.keep.ensures.rest
    (c.make_kept.ensures.moments told volume (option_copied c.args.old) state
    (ready-by c.args.store.now c.keep.new.self a c.args.unit c.args.part c.args.place.now
    (option_copied c.args.old) c.in_ok-prepared.prepared c.keep.ensures.rest
    c.keep.ensures.blocks prepared.undo prepared.prepared volume state to))

pub returns-clause-unchanged : goal.returns-clause-unchanged
returns-clause-unchanged g c = λ memory.
    let now = g.B.Blocks.seen c.args.blocks.now in
    let prepared = c.in_ok-prepared.ensures in
    let same = c.unkeep.ensures.undo _ c.args.store.now.undo refl refl prepared.prepared
    prepared.undo in (
      refl,
      final-is c.args.store.now c.keep.new.self now c.args.unit c.args.part c.args.place.now
          (option_copied c.args.old) c.in_ok-prepared.prepared c.keep.ensures.rest
          c.keep.ensures.blocks prepared.undo prepared.prepared c.unkeep.new.self
          c.unkeep.ensures.rest same,
      c.unkeep.ensures.set (c.keep.ensures.set c.requires.set),
      final-stored c.args.store.now c.keep.new.self now c.args.unit c.args.part c.args.place.now
          (option_copied c.args.old) c.in_ok-prepared.prepared c.keep.ensures.rest
          c.keep.ensures.blocks prepared.undo prepared.prepared c.unkeep.new.self
          c.unkeep.ensures.rest same,
    )

err-both : {X E : Type 0} {P Q R : E → Type 0} (result : Result X E) → IfErr result P
    → IfErr result Q → ((e : E) → P e → Q e → R e) → IfErr result R
err-both (Ok x) p q f = tt
err-both (Err e) p q f = f e p q

pub returns-in-Ok-clause-unchanged : goal.returns-in-Ok-clause-unchanged
returns-in-Ok-clause-unchanged g c = err-both c.make_kept.result c.make_kept.ensures.unchanged
    c.make_kept.ensures.undo (λ no left took memory.
    let now = g.B.Blocks.seen c.args.blocks.now in
    let prepared = c.in_ok-prepared.ensures in
    let is = left memory in
    let same = took memory _ c.args.store.now.undo refl refl prepared.prepared prepared.undo in (
      is.0,
      final-is c.args.store.now c.keep.new.self now c.args.unit c.args.part c.args.place.now
          (option_copied c.args.old) c.in_ok-prepared.prepared c.keep.ensures.rest
          c.keep.ensures.blocks prepared.undo prepared.prepared c.make_kept.new.store is.1 same,
      is.2,
      λ volume state stored. subst (λ (b : g.row.B.Denot). IsStored volume c.make_kept.new.store
          state (g.B.Blocks.seen b)) (sym is.0)
          (final-stored c.args.store.now c.keep.new.self now c.args.unit c.args.part
          c.args.place.now (option_copied c.args.old) c.in_ok-prepared.prepared
          c.keep.ensures.rest c.keep.ensures.blocks prepared.undo prepared.prepared
          c.make_kept.new.store is.1 same volume state stored),
    ))
