use Rattle.std.proofs.Common.{◌≡◌, ◌+◌, Bool, true, false, refl, ap, subst, ◌∙◌, arith}
use Rattle.std.specs.Prelude.{IfOk, IsTrue, Ok, Result, length}
use Rattle.vr_types.specs.Geometry.{area_count}
use Rattle.vr_types.proofs.CallerLemmas.{keeps-none, keeps-then}
use Rattle.vr_space.specs.Rosters.{Numbered}
use Rattle.vr_attach.specs.declared.damage.Damage.{Damage}
use Rattle.vr_chained.specs.Walked.{IsOpen}
use Rattle.vr_chained.proofs.Stepping.{bad-by, marked-on, walked-by}
use Rattle.vr_chained.proofs.walk.walk.Goals as goal
use Rattle.vr_chained.proofs.walk.walk.Goals.{In-Ok-true}
use Rattle.vr_chained.proofs.walk.walk.Given as over

pub loop-damage-init : goal.loop-damage-init
loop-damage-init g c = record {
  keeps = keeps-none g.B.Blocks.tells (g.B.Blocks.seen c.args.blocks.now)
      (λ told image now. g.met.B.Blocks.images_may c.args.blocks.now image told now);
  faults = refl;
  is_open = c.requires.ready;
  part = refl;
  top = refl;
  count = refl;
  marked = λ before marks. marks;
  walked = λ told before marks walk. walk;
}

-- where there is an area more
is-more : (g : over.Over) (c : In-Ok-true g) → c.in_ok-step.field-0 ≡ Ok true
is-more g c = c.in-Ok-true.is
    ∙ ap (λ (more : Bool). let found : Result Bool Damage = Ok more in found)
    c.in-Ok-true.field-0-test

goes-on : (g : over.Over) (c : In-Ok-true g) → IsOpen c.step.new.chain c.step.new.taken
goes-on g c = subst (λ (found : Result Bool Damage). IfOk found (λ (more : Bool). IsTrue more
    → IsOpen c.step.new.chain c.step.new.taken)) (is-more g c) c.in_ok-step.ensures.ready refl

pub loop-damage-preserved : goal.loop-damage-preserved
loop-damage-preserved g c = record {
  keeps = keeps-then g.B.Blocks.tells (g.B.Blocks.seen c.args.blocks.now)
      (g.B.Blocks.seen c.loop-damage.blocks) (g.B.Blocks.seen c.step.new.blocks)
      c.loop-damage.invariant.keeps c.step.ensures.keeps;
  faults = c.in_ok-step.ensures.cause.ok ∙ c.loop-damage.invariant.faults;
  is_open = goes-on g c;
  part = c.step.ensures.part ∙ c.loop-damage.invariant.part;
  top = c.step.ensures.top ∙ c.loop-damage.invariant.top;
  count = c.step.ensures.count ∙ c.loop-damage.invariant.count;
  marked = λ before marks.
      marked-on c.args.chain.now.part c.loop-damage.chain.part c.loop-damage.invariant.part
      c.loop-damage.chain before c.loop-damage.taken c.in_ok-step.field-0 c.step.new.chain
      c.step.new.taken true (is-more g c) (c.in_ok-step.ensures.marked before)
      (c.loop-damage.invariant.marked before marks);
  walked = λ told before marks walk.
      walked-by c.args.chain.now.part c.loop-damage.chain.part c.loop-damage.invariant.part
      c.loop-damage.chain before c.loop-damage.taken c.in_ok-step.field-0
      (g.B.Blocks.seen c.loop-damage.blocks).cur (g.B.Blocks.seen c.args.blocks.now).cur
      (c.loop-damage.invariant.keeps.content told) (c.loop-damage.invariant.marked before marks)
      (c.loop-damage.invariant.walked told before marks walk) c.step.new.chain true (is-more g c)
      (c.in_ok-step.ensures.walked told before);
}

pub loop-damage-smaller : goal.loop-damage-smaller
loop-damage-smaller g c =
    let longer : length c.step.new.chain.areas ≡ length c.loop-damage.chain.areas + 1 =
    subst (λ (found : Result Bool Damage). IfOk found (λ (more : Bool). IsTrue more
    → length c.step.new.chain.areas ≡ length c.loop-damage.chain.areas + 1)) (is-more g c)
    c.in_ok-step.ensures.longer refl in
    let ready = goes-on g c in
    let count : area_count c.step.new.chain.part.geometry
    ≡ area_count c.loop-damage.chain.part.geometry =
    ap (λ (p : Numbered). area_count p.geometry) c.step.ensures.part in
    omega (arith, longer, ready.room, count)

pub returns-in-Ok-false-clause-marked : goal.returns-in-Ok-false-clause-marked
returns-in-Ok-false-clause-marked g c = λ before marks none.
    marked-on c.args.chain.now.part c.loop-damage.chain.part c.loop-damage.invariant.part
    c.loop-damage.chain before c.loop-damage.taken c.in_ok-step.field-0 c.step.new.chain
    c.step.new.taken c.in-Ok-false.field-0 c.in-Ok-false.is (c.in_ok-step.ensures.marked before)
    (c.loop-damage.invariant.marked before marks)

pub returns-in-Ok-false-clause-found : goal.returns-in-Ok-false-clause-found
returns-in-Ok-false-clause-found g c = λ told before marks walk.
    walked-by c.args.chain.now.part c.loop-damage.chain.part c.loop-damage.invariant.part
    c.loop-damage.chain before c.loop-damage.taken c.in_ok-step.field-0
    (g.B.Blocks.seen c.loop-damage.blocks).cur (g.B.Blocks.seen c.args.blocks.now).cur
    (c.loop-damage.invariant.keeps.content told) (c.loop-damage.invariant.marked before marks)
    (c.loop-damage.invariant.walked told before marks walk) c.step.new.chain false
    (c.in-Ok-false.is
    ∙ ap (λ (more : Bool). let found : Result Bool Damage = Ok more in found)
    c.in-Ok-false.field-0-test)
    (c.in_ok-step.ensures.walked told before)

pub returns-in-Err-clause-found : goal.returns-in-Err-clause-found
returns-in-Err-clause-found g c = λ told before marks walk.
    bad-by c.args.chain.now.part c.loop-damage.chain.part c.loop-damage.invariant.part
    c.loop-damage.chain before c.loop-damage.taken c.in_ok-step.field-0
    (g.B.Blocks.seen c.loop-damage.blocks).cur (g.B.Blocks.seen c.args.blocks.now).cur
    (c.loop-damage.invariant.keeps.content told) (c.loop-damage.invariant.marked before marks)
    (c.loop-damage.invariant.walked told before marks walk) c.in-Err.damage c.in-Err.is
    (c.in_ok-step.ensures.bad told before)

pub returns-in-Err-clause-keeps : goal.returns-in-Err-clause-keeps
returns-in-Err-clause-keeps g c =
    keeps-then g.B.Blocks.tells (g.B.Blocks.seen c.args.blocks.now)
    (g.B.Blocks.seen c.loop-damage.blocks) (g.B.Blocks.seen c.step.new.blocks)
    c.loop-damage.invariant.keeps c.step.ensures.keeps
