use Rattle.std.proofs.Common.{◌∙◌, ℕ, List, Option, None, refl, sym, subst, arith}
use Rattle.vr_types.proofs.CallerLemmas.{keeps-none, keeps-then}
use Rattle.vr_answer.specs.Least.{IsLeastWith}
use Rattle.vr_event.specs.Searching.{HasRecord}
use Rattle.vr_event.specs.Walking.{is_coming}
use Rattle.vr_store.specs.Store.{IsStored, Stands, StoreNow}
use Rattle.vr_store.proofs.CallerLemmas.{stands-kept, stored-keeps}
use Rattle.vr_event.proofs.RecordWalk.{walk-begins, walk-ends, walk-fills, walk-goes-on}
use Rattle.vr_event.proofs.records.count_records.Goals as goal

pub loop-counted-init : goal.loop-counted-init
loop-counted-init g c = record {
  keeps = keeps-none g.B.Blocks.tells (g.B.Blocks.seen c.args.blocks.now)
      (λ told image left. g.met.B.Blocks.images_may c.args.blocks.now image told left);
  walked = λ told volume state stored. walk-begins (state.contents c.args.part.0);
  faults = refl;
  same = refl;
}

pub place_coming-requires-clause-stands : goal.place_coming-requires-clause-stands
place_coming-requires-clause-stands g c told =
    let a = g.B.Blocks.seen c.args.blocks.now in
    let b = g.B.Blocks.seen c.loop-counted.blocks in
    subst (λ (s : StoreNow). Stands s b) (sym c.loop-counted.invariant.same)
    (stands-kept g.B.Blocks.tells told a b c.loop-counted.invariant.keeps c.args.store.now
    (g.met.B.Blocks.cur_may c.args.blocks.now told) (c.requires.stands told))

pub loop-counted-preserved : goal.loop-counted-preserved
loop-counted-preserved g c =
    let a = g.B.Blocks.seen c.args.blocks.now in
    let b = g.B.Blocks.seen c.loop-counted.blocks in
    let part = c.args.part.0 in
    let last = c.loop-counted.last in
    record {
      keeps = keeps-then g.B.Blocks.tells a b (g.B.Blocks.seen c.place_coming.new.blocks)
          c.loop-counted.invariant.keeps c.place_coming.ensures.keeps;
      walked = λ told volume state stored.
          walk-goes-on c.loop-counted.counted last c.in-Some.place (state.contents part)
          (stored.volume.laid.each part)
          (c.loop-counted.invariant.walked told volume state stored)
          (subst (λ (next : Option (List ℕ)).
          IsLeastWith (is_coming None last) (HasRecord (state.contents part)) next) c.in-Some.is
          (c.in_ok-place_coming.ensures.next told volume state
          (subst (λ (s : StoreNow). IsStored volume s state b)
          (sym c.loop-counted.invariant.same)
          (stored-keeps g.B.Blocks.tells told a b c.loop-counted.invariant.keeps volume
          c.args.store.now state (g.met.B.Blocks.cur_may c.args.blocks.now told) stored))));
      faults = c.in_ok-place_coming.ensures.cause.ok ∙ c.loop-counted.invariant.faults;
      same = c.place_coming.ensures.same ∙ c.loop-counted.invariant.same;
    }

pub returns-in_err-place_coming-clause-keeps : goal.returns-in_err-place_coming-clause-keeps
returns-in_err-place_coming-clause-keeps g c =
    keeps-then g.B.Blocks.tells (g.B.Blocks.seen c.args.blocks.now)
    (g.B.Blocks.seen c.loop-counted.blocks) (g.B.Blocks.seen c.place_coming.new.blocks)
    c.loop-counted.invariant.keeps c.place_coming.ensures.keeps

pub returns-in-None-clause-keeps : goal.returns-in-None-clause-keeps
returns-in-None-clause-keeps g c =
    keeps-then g.B.Blocks.tells (g.B.Blocks.seen c.args.blocks.now)
    (g.B.Blocks.seen c.loop-counted.blocks) (g.B.Blocks.seen c.place_coming.new.blocks)
    c.loop-counted.invariant.keeps c.place_coming.ensures.keeps

pub returns-in-None-clause-counted : goal.returns-in-None-clause-counted
returns-in-None-clause-counted g c told volume state stored =
    let a = g.B.Blocks.seen c.args.blocks.now in
    let b = g.B.Blocks.seen c.loop-counted.blocks in
    let part = c.args.part.0 in
    let last = c.loop-counted.last in
    walk-ends c.loop-counted.counted last (state.contents part)
    (stored.volume.laid.each part) c.loop-counted-test.true
    (c.loop-counted.invariant.walked told volume state stored)
    (subst (λ (next : Option (List ℕ)).
    IsLeastWith (is_coming None last) (HasRecord (state.contents part)) next) c.in-None.is
    (c.in_ok-place_coming.ensures.next told volume state
    (subst (λ (s : StoreNow). IsStored volume s state b) (sym c.loop-counted.invariant.same)
    (stored-keeps g.B.Blocks.tells told a b c.loop-counted.invariant.keeps volume
    c.args.store.now state (g.met.B.Blocks.cur_may c.args.blocks.now told) stored))))

pub returns-clause-counted : goal.returns-clause-counted
returns-clause-counted g c told volume state stored =
    walk-fills c.loop-counted.counted c.loop-counted.last (state.contents c.args.part.0)
    (omega arith) (c.loop-counted.invariant.walked told volume state stored)
