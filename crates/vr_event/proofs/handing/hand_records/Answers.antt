use Rattle.std.proofs.Common.{◌∙◌, ◌^◌, ◌-◌, ℕ, List, Option, refl, sym, subst, arith}
use Rattle.std.specs.Option.{option_copied}
use Rattle.vr_types.proofs.CallerLemmas.{keeps-none, keeps-then}
use Rattle.vr_answer.specs.Least.{IsLeastWith}
use Rattle.vr_history.specs.State.{State}
use Rattle.vr_event.specs.Reading.{HasVisitedSome}
use Rattle.vr_event.specs.Searching.{HasRecord}
use Rattle.vr_event.specs.Walking.{is_coming}
use Rattle.vr_store.specs.Store.{IsStored, Stands, StoreNow}
use Rattle.vr_store.proofs.CallerLemmas.{stands-kept, stored-keeps}
use Rattle.vr_event.proofs.HandedRecords.{hands-all, hands-done, hands-first, hands-found}
use Rattle.vr_event.proofs.HandedRecords.{hands-full, hands-none, unless-any, unless-failed}
use Rattle.vr_event.proofs.HandedRecords.{visited-next, visited-none}
use Rattle.vr_event.proofs.handing.hand_records.Goals as goal

pub loop-turn-init : goal.loop-turn-init
loop-turn-init g c =
    let R = g.R.RecordVisitor in
    record {
      keeps = keeps-none g.B.Blocks.tells (g.B.Blocks.seen c.args.blocks.now)
          (λ told image left. g.met.B.Blocks.images_may c.args.blocks.now image told left);
      handed = λ told volume state stored. hands-none R.after R.done (option_copied c.args.from)
          (state.contents c.args.part.0) c.args.visitor.now;
      visited = visited-none R.after R.done c.args.visitor.now;
      faults = refl;
      same = refl;
    }

-- ---- where the visitor is done

pub returns-then-is_done-clause-all : goal.returns-then-is_done-clause-all
returns-then-is_done-clause-all g c told volume state stored =
    hands-done g.R.RecordVisitor.after g.R.RecordVisitor.done c.loop-turn._turn
    (option_copied c.args.from) c.loop-turn.last (state.contents c.args.part.0)
    c.args.visitor.now c.loop-turn.visitor
    (c.loop-turn.invariant.handed told volume state stored) (2 ^ 64 - 1)
    (omega (arith, c.loop-turn-test.true)) (sym c.is_done.ensures ∙ c.if-is_done.true)

pub returns-then-is_done-clause-first : goal.returns-then-is_done-clause-first
returns-then-is_done-clause-first g c told volume state stored =
    hands-first g.R.RecordVisitor.after g.R.RecordVisitor.done c.loop-turn._turn
    (option_copied c.args.from) c.loop-turn.last (state.contents c.args.part.0)
    c.args.visitor.now c.loop-turn.visitor
    (c.loop-turn.invariant.handed told volume state stored)

-- ---- where the next place isn't found

pub place_coming-requires-clause-stands : goal.place_coming-requires-clause-stands
place_coming-requires-clause-stands g c told =
    let a = g.B.Blocks.seen c.args.blocks.now in
    let b = g.B.Blocks.seen c.loop-turn.blocks in
    subst (λ (s : StoreNow). Stands s b) (sym c.loop-turn.invariant.same)
    (stands-kept g.B.Blocks.tells told a b c.loop-turn.invariant.keeps c.args.store.now
    (g.met.B.Blocks.cur_may c.args.blocks.now told) (c.requires.stands told))

pub returns-in_err-place_coming-clause-first : goal.returns-in_err-place_coming-clause-first
returns-in_err-place_coming-clause-first g c told =
    unless-any c.from_residual.result _ (λ volume state stored.
    hands-first g.R.RecordVisitor.after g.R.RecordVisitor.done c.loop-turn._turn
    (option_copied c.args.from) c.loop-turn.last (state.contents c.args.part.0)
    c.args.visitor.now c.loop-turn.visitor
    (c.loop-turn.invariant.handed told volume state stored))

pub returns-in_err-place_coming-clause-keeps : goal.returns-in_err-place_coming-clause-keeps
returns-in_err-place_coming-clause-keeps g c =
    keeps-then g.B.Blocks.tells (g.B.Blocks.seen c.args.blocks.now)
    (g.B.Blocks.seen c.loop-turn.blocks) (g.B.Blocks.seen c.place_coming.new.blocks)
    c.loop-turn.invariant.keeps c.place_coming.ensures.keeps

-- ---- where there is none

pub returns-in-None-clause-all : goal.returns-in-None-clause-all
returns-in-None-clause-all g c told volume state stored =
    let a = g.B.Blocks.seen c.args.blocks.now in
    let b = g.B.Blocks.seen c.loop-turn.blocks in
    let from = option_copied c.args.from in
    let last = c.loop-turn.last in
    let content = state.contents c.args.part.0 in
    hands-all g.R.RecordVisitor.after g.R.RecordVisitor.done c.loop-turn._turn from last content
    c.args.visitor.now c.loop-turn.visitor
    (c.loop-turn.invariant.handed told volume state stored) (2 ^ 64 - 1)
    (omega (arith, c.loop-turn-test.true)) (stored.volume.laid.each c.args.part.0)
    (subst (λ (next : Option (List ℕ)).
    IsLeastWith (is_coming from last) (HasRecord content) next) c.in-None.is
    (c.in_ok-place_coming.ensures.next told volume state
    (subst (λ (s : StoreNow). IsStored volume s state b) (sym c.loop-turn.invariant.same)
    (stored-keeps g.B.Blocks.tells told a b c.loop-turn.invariant.keeps volume
    c.args.store.now state (g.met.B.Blocks.cur_may c.args.blocks.now told) stored))))

pub returns-in-None-clause-first : goal.returns-in-None-clause-first
returns-in-None-clause-first g c told volume state stored =
    hands-first g.R.RecordVisitor.after g.R.RecordVisitor.done c.loop-turn._turn
    (option_copied c.args.from) c.loop-turn.last (state.contents c.args.part.0)
    c.args.visitor.now c.loop-turn.visitor
    (c.loop-turn.invariant.handed told volume state stored)

pub returns-in-None-clause-keeps : goal.returns-in-None-clause-keeps
returns-in-None-clause-keeps g c =
    keeps-then g.B.Blocks.tells (g.B.Blocks.seen c.args.blocks.now)
    (g.B.Blocks.seen c.loop-turn.blocks) (g.B.Blocks.seen c.place_coming.new.blocks)
    c.loop-turn.invariant.keeps c.place_coming.ensures.keeps

-- ---- the record that is found

pub hand_over-requires-clause-stands : goal.hand_over-requires-clause-stands
hand_over-requires-clause-stands g c told =
    let a = g.B.Blocks.seen c.args.blocks.now in
    let b = g.B.Blocks.seen c.loop-turn.blocks in
    let d = g.B.Blocks.seen c.place_coming.new.blocks in
    subst (λ (s : StoreNow). Stands s d)
    (sym (c.place_coming.ensures.same ∙ c.loop-turn.invariant.same))
    (stands-kept g.B.Blocks.tells told a d
    (keeps-then g.B.Blocks.tells a b d c.loop-turn.invariant.keeps c.place_coming.ensures.keeps)
    c.args.store.now (g.met.B.Blocks.cur_may c.args.blocks.now told) (c.requires.stands told))

pub returns-in_err-hand_over-in-Some-clause-first :
    goal.returns-in_err-hand_over-in-Some-clause-first
returns-in_err-hand_over-in-Some-clause-first g c told =
    let R = g.R.RecordVisitor in
    let from = option_copied c.args.from in
    unless-failed c.from_residual-in_err-hand_over-in-Some.result
    c.in_err-hand_over-in-Some.field-0.0
    ((volume : ℕ) (state : State)
    → IsStored volume c.args.store.now state (g.B.Blocks.seen c.args.blocks.now)
    → HasVisitedSome R.after R.done from (state.contents c.args.part.0)
    c.args.visitor.now c.hand_over.new.visitor)
    c.from_residual-in_err-hand_over-in-Some.ensures.1
    (λ fault failed volume state stored.
    subst (λ (visitor : g.row.R.Denot). HasVisitedSome R.after R.done from
    (state.contents c.args.part.0) c.args.visitor.now visitor)
    (sym (c.in_err-hand_over-in-Some.ensures.none fault failed))
    (hands-first R.after R.done c.loop-turn._turn from c.loop-turn.last
    (state.contents c.args.part.0) c.args.visitor.now c.loop-turn.visitor
    (c.loop-turn.invariant.handed told volume state stored)))

pub returns-in_err-hand_over-in-Some-clause-keeps :
    goal.returns-in_err-hand_over-in-Some-clause-keeps
returns-in_err-hand_over-in-Some-clause-keeps g c =
    let a = g.B.Blocks.seen c.args.blocks.now in
    let b = g.B.Blocks.seen c.loop-turn.blocks in
    let d = g.B.Blocks.seen c.place_coming.new.blocks in
    keeps-then g.B.Blocks.tells a d (g.B.Blocks.seen c.hand_over.new.blocks)
    (keeps-then g.B.Blocks.tells a b d c.loop-turn.invariant.keeps c.place_coming.ensures.keeps)
    c.hand_over.ensures.keeps

pub loop-turn-preserved : goal.loop-turn-preserved
loop-turn-preserved g c =
    let R = g.R.RecordVisitor in
    let tells = g.B.Blocks.tells in
    let a = g.B.Blocks.seen c.args.blocks.now in
    let b = g.B.Blocks.seen c.loop-turn.blocks in
    let d = g.B.Blocks.seen c.place_coming.new.blocks in
    let part = c.args.part.0 in
    let from = option_copied c.args.from in
    let last = c.loop-turn.last in
    let so-far = keeps-then tells a b d c.loop-turn.invariant.keeps c.place_coming.ensures.keeps in
    let goes-on = sym c.is_done.ensures ∙ c.if-is_done.false in
    record {
      keeps = keeps-then tells a d (g.B.Blocks.seen c.hand_over.new.blocks) so-far
          c.hand_over.ensures.keeps;
      handed = λ told volume state stored.
          hands-found R.after R.done c.loop-turn._turn from last (state.contents part)
          c.args.visitor.now c.loop-turn.visitor
          (c.loop-turn.invariant.handed told volume state stored)
          c.in-Some.place c.hand_over.new.visitor (stored.volume.laid.each part) goes-on
          (subst (λ (next : Option (List ℕ)).
          IsLeastWith (is_coming from last) (HasRecord (state.contents part)) next) c.in-Some.is
          (c.in_ok-place_coming.ensures.next told volume state
          (subst (λ (s : StoreNow). IsStored volume s state b)
          (sym c.loop-turn.invariant.same)
          (stored-keeps tells told a b c.loop-turn.invariant.keeps volume
          c.args.store.now state (g.met.B.Blocks.cur_may c.args.blocks.now told) stored))))
          (c.in_ok-hand_over-in-Some.ensures.found told volume state
          (subst (λ (s : StoreNow). IsStored volume s state d)
          (sym (c.place_coming.ensures.same ∙ c.loop-turn.invariant.same))
          (stored-keeps tells told a d so-far volume
          c.args.store.now state (g.met.B.Blocks.cur_may c.args.blocks.now told) stored)));
      visited = visited-next R.after R.done c.args.visitor.now c.loop-turn.visitor
          c.hand_over.new.visitor c.in-Some.place c.in_ok-hand_over-in-Some.ensures.one.0
          c.loop-turn.invariant.visited goes-on c.in_ok-hand_over-in-Some.ensures.one.1;
      faults = c.in_ok-hand_over-in-Some.ensures.cause.ok
          ∙ c.in_ok-place_coming.ensures.cause.ok ∙ c.loop-turn.invariant.faults;
      same = c.hand_over.ensures.same ∙ c.place_coming.ensures.same ∙ c.loop-turn.invariant.same;
    }

-- ---- where no more are counted

pub returns-clause-all : goal.returns-clause-all
returns-clause-all g c told volume state stored =
    hands-full g.R.RecordVisitor.after g.R.RecordVisitor.done c.loop-turn._turn
    (option_copied c.args.from) c.loop-turn.last (state.contents c.args.part.0)
    c.args.visitor.now c.loop-turn.visitor
    (c.loop-turn.invariant.handed told volume state stored) (2 ^ 64 - 1) (omega arith)

pub returns-clause-first : goal.returns-clause-first
returns-clause-first g c told volume state stored =
    hands-first g.R.RecordVisitor.after g.R.RecordVisitor.done c.loop-turn._turn
    (option_copied c.args.from) c.loop-turn.last (state.contents c.args.part.0)
    c.args.visitor.now c.loop-turn.visitor
    (c.loop-turn.invariant.handed told volume state stored)
