use Rattle.std.proofs.Common.{◌≡◌, ◌+◌, ◌∙◌, IsTrue, None, Option, Some, ap, refl, subst, ℕ, arith}
use Rattle.std.specs.Prelude.{IfSome, Ok, Result}
use Rattle.std.proofs.lemmas.Result.{IfOk-at_ok, MatchResult-at_err, MatchResult-at_ok}
use Rattle.vr_types.specs.Space.{free_count}
use Rattle.vr_types.proofs.CallerLemmas.{keeps-none, keeps-then}
use Rattle.vr_space.specs.Areas.{KeyedChain}
use Rattle.vr_attach.specs.Linked.{IsLinkedDamagedAt}
use Rattle.vr_attach.specs.Marked.{IsTakenIn}
use Rattle.vr_attach.specs.Walked.{AreMarkedTo, EndsGreatest, IsOpen, IsWalkedBy, IsWalkedOver}
use Rattle.vr_attach.specs.declared.damage.Damage.{Damage}
use Rattle.vr_attach.proofs.Stepping.{over-counted, over-knows, over-marked, over-stands}
use Rattle.vr_attach.proofs.Stepping.{over-whole}
use Rattle.vr_attach.proofs.Stepping.{start-marked}
use Rattle.vr_attach.proofs.Stepping.{start-open, start-walk, walked-by}
use Rattle.vr_attach.proofs.walk.walk_chain.Goals as goal
use Rattle.vr_attach.proofs.walk.walk_chain.Given as over

pub loop-next-init : goal.loop-next-init
loop-next-init g c =
    let part = c.args.areas.now.part in
    let first : c.behind-areas.inside.first ≡ part.first =
    ap (λ (one : KeyedChain). one.first) (c.behind-areas.view_is ∙ c.layout.ensures) in
    record {
      keeps = keeps-none g.B.Blocks.tells (g.B.Blocks.seen c.args.blocks.now)
          (λ told image now. g.met.B.Blocks.images_may c.args.blocks.now image told now);
      faults = refl;
      is_open = start-open part c.args.areas.now c.behind-areas.inside.first c.args.taken.now
          c.requires.none first c.requires.first c.requires.on.part_is.first c.requires.count;
      part = refl;
      top = refl;
      count = refl;
      marked = start-marked part c.args.areas.now c.behind-areas.inside.first c.args.taken.now
          c.requires.none first c.requires.first c.requires.alone;
      walked = λ told. start-walk part c.args.areas.now c.behind-areas.inside.first
          c.args.taken.now c.requires.none first c.requires.first
          (g.B.Blocks.seen c.args.blocks.now).cur c.requires.on.part_is.first;
    }

-- there is an area more
goes-on : (g : over.Over) (c : goal.In-Ok-Some g)
    → c.in_ok-next.field-0 ≡ Ok (Some c.in-Ok-Some.next)
goes-on g c = c.in-Ok-Some.is
    ∙ ap (λ (next : Option ℕ). let found : Result (Option ℕ) Damage = Ok next in found)
    c.in-Ok-Some.field-0-is

pub loop-next-preserved : goal.loop-next-preserved
loop-next-preserved g c =
    let taken = c.args.taken.now in
    let cur = (g.B.Blocks.seen c.args.blocks.now).cur in
    record {
      keeps = keeps-then g.B.Blocks.tells (g.B.Blocks.seen c.args.blocks.now)
          (g.B.Blocks.seen c.loop-next.blocks) (g.B.Blocks.seen c.step.new.blocks)
          c.loop-next.invariant.keeps c.step.ensures.keeps;
      faults = c.in_ok-next.ensures.cause.ok ∙ c.loop-next.invariant.faults;
      is_open = IfOk-at_ok (λ (next : Option ℕ). IfSome next (λ (further : ℕ).
          IsOpen c.step.new.areas further c.step.new.taken)) (goes-on g c)
          c.in_ok-next.ensures.ready;
      part = c.step.ensures.part ∙ c.loop-next.invariant.part;
      top = c.step.ensures.top ∙ c.loop-next.invariant.top;
      count = c.step.ensures.count ∙ c.loop-next.invariant.count;
      marked = IfOk-at_ok (AreMarkedTo taken c.step.new.taken c.step.new.areas) (goes-on g c)
          (c.in_ok-next.ensures.marked taken c.loop-next.invariant.marked);
      walked = λ told. MatchResult-at_ok (IsWalkedBy (IsTakenIn taken) cur c.step.new.areas)
          (λ (damage : Damage). IsLinkedDamagedAt c.loop-next.areas.part (IsTakenIn taken) cur
          damage.block damage.rule) (Some c.in-Ok-Some.next) (goes-on g c)
          (walked-by taken c.loop-next.taken (g.B.Blocks.seen c.loop-next.blocks).cur cur
          c.loop-next.areas c.step.new.areas c.loop-next.area c.in_ok-next.field-0
          (c.loop-next.invariant.keeps.content told) c.loop-next.invariant.marked
          (c.in_ok-next.ensures.walked told taken) (c.loop-next.invariant.walked told));
    }

pub loop-next-smaller : goal.loop-next-smaller
loop-next-smaller g c =
    let fewer = IfOk-at_ok (λ (next : Option ℕ). IfSome next (λ (further : ℕ).
    free_count c.step.new.taken + 1 ≡ free_count c.loop-next.taken)) (goes-on g c)
    c.in_ok-next.ensures.fewer in
    omega (arith, fewer)

module _ (g : over.Over) (c : goal.In-Ok-None g) where
  ends : c.in_ok-next.field-0 ≡ Ok None
  ends = c.in-Ok-None.is
      ∙ ap (λ (next : Option ℕ). let found : Result (Option ℕ) Damage = Ok next in found)
      c.in-Ok-None.field-0-is

  part-is : c.step.new.areas.part ≡ c.args.areas.now.part
  part-is = c.step.ensures.part ∙ c.loop-next.invariant.part

  marks : AreMarkedTo c.args.taken.now c.step.new.taken c.step.new.areas None
  marks = IfOk-at_ok (AreMarkedTo c.args.taken.now c.step.new.taken c.step.new.areas) ends
      (c.in_ok-next.ensures.marked c.args.taken.now c.loop-next.invariant.marked)

  walked-over : IsTrue g.B.Blocks.tells
      → IsWalkedOver (g.B.Blocks.seen c.args.blocks.now).cur c.step.new.areas
  walked-over told =
      let taken = c.args.taken.now in
      let cur = (g.B.Blocks.seen c.args.blocks.now).cur in
      MatchResult-at_ok (IsWalkedBy (IsTakenIn taken) cur c.step.new.areas)
      (λ (damage : Damage). IsLinkedDamagedAt c.loop-next.areas.part (IsTakenIn taken) cur
      damage.block damage.rule) None ends
      (walked-by taken c.loop-next.taken (g.B.Blocks.seen c.loop-next.blocks).cur cur
      c.loop-next.areas c.step.new.areas c.loop-next.area c.in_ok-next.field-0
      (c.loop-next.invariant.keeps.content told) c.loop-next.invariant.marked
      (c.in_ok-next.ensures.walked told taken) (c.loop-next.invariant.walked told))

pub returns-in-Ok-None-clause-marked : goal.returns-in-Ok-None-clause-marked
returns-in-Ok-None-clause-marked g c none =
    over-marked c.args.areas.now.part c.step.new.areas (part-is g c) c.args.taken.now
    c.step.new.taken (marks g c)

pub returns-in-Ok-None-clause-whole : goal.returns-in-Ok-None-clause-whole
returns-in-Ok-None-clause-whole g c none =
    over-whole c.args.taken.now c.step.new.taken c.step.new.areas (marks g c)
    (IfOk-at_ok (λ (next : Option ℕ). next ≡ None → EndsGreatest c.step.new.areas) (ends g c)
    c.in_ok-next.ensures.greatest refl)

pub returns-in-Ok-None-clause-knows : goal.returns-in-Ok-None-clause-knows
returns-in-Ok-None-clause-knows g c told none =
    over-knows c.args.areas.now.part c.step.new.areas (part-is g c)
    (g.B.Blocks.seen c.args.blocks.now).cur (walked-over g c told)

pub returns-in-Ok-None-clause-counted : goal.returns-in-Ok-None-clause-counted
returns-in-Ok-None-clause-counted g c told none =
    over-counted c.args.areas.now.part c.step.new.areas (part-is g c)
    (g.B.Blocks.seen c.args.blocks.now).cur (walked-over g c told)

pub returns-in-Ok-None-clause-found : goal.returns-in-Ok-None-clause-found
returns-in-Ok-None-clause-found g c told =
    over-stands c.args.areas.now.part c.step.new.areas (part-is g c)
    (g.B.Blocks.seen c.args.blocks.now).cur c.requires.on.part_is (walked-over g c told)

pub returns-in-Ok-None-clause-keeps : goal.returns-in-Ok-None-clause-keeps
returns-in-Ok-None-clause-keeps g c =
    keeps-then g.B.Blocks.tells (g.B.Blocks.seen c.args.blocks.now)
    (g.B.Blocks.seen c.loop-next.blocks) (g.B.Blocks.seen c.step.new.blocks)
    c.loop-next.invariant.keeps c.step.ensures.keeps

pub returns-in-Err-clause-found : goal.returns-in-Err-clause-found
returns-in-Err-clause-found g c told =
    let taken = c.args.taken.now in
    let cur = (g.B.Blocks.seen c.args.blocks.now).cur in
    let damage = c.in-Err.damage in
    subst (λ (part : KeyedChain).
    IsLinkedDamagedAt part (IsTakenIn taken) cur damage.block damage.rule)
    c.loop-next.invariant.part
    (MatchResult-at_err (IsWalkedBy (IsTakenIn taken) cur c.step.new.areas)
    (λ (one : Damage).
    IsLinkedDamagedAt c.loop-next.areas.part (IsTakenIn taken) cur one.block one.rule)
    damage c.in-Err.is
    (walked-by taken c.loop-next.taken (g.B.Blocks.seen c.loop-next.blocks).cur cur
    c.loop-next.areas c.step.new.areas c.loop-next.area c.in_ok-next.field-0
    (c.loop-next.invariant.keeps.content told) c.loop-next.invariant.marked
    (c.in_ok-next.ensures.walked told taken) (c.loop-next.invariant.walked told)))

pub returns-in-Err-clause-keeps : goal.returns-in-Err-clause-keeps
returns-in-Err-clause-keeps g c =
    keeps-then g.B.Blocks.tells (g.B.Blocks.seen c.args.blocks.now)
    (g.B.Blocks.seen c.loop-next.blocks) (g.B.Blocks.seen c.step.new.blocks)
    c.loop-next.invariant.keeps c.step.ensures.keeps

pub returns-in_err-next-clause-keeps : goal.returns-in_err-next-clause-keeps
returns-in_err-next-clause-keeps g c =
    keeps-then g.B.Blocks.tells (g.B.Blocks.seen c.args.blocks.now)
    (g.B.Blocks.seen c.loop-next.blocks) (g.B.Blocks.seen c.step.new.blocks)
    c.loop-next.invariant.keeps c.step.ensures.keeps
