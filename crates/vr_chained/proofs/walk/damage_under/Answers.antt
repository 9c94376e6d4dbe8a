use Rattle.std.proofs.Common.{◌≡◌, ℕ, refl, sym, subst, ◌∙◌, arith}
use Rattle.vr_types.specs.Image.{Image, block_at}
use Rattle.vr_types.proofs.CallerLemmas.{keeps-none, keeps-then}
use Rattle.vr_space.specs.Rosters.{interval_in}
use Rattle.vr_attach.specs.Chain.{FilledBreaks}
use Rattle.vr_attach.specs.Damage.{IsLeastBroken}
use Rattle.vr_chained.proofs.Attaching.{RuleAt, filled-more}
use Rattle.vr_chained.proofs.walk.damage_under.Goals as goal

pub loop-i-init : goal.loop-i-init
loop-i-init g c = record {
  keeps = keeps-none g.B.Blocks.tells (g.B.Blocks.seen c.args.blocks.now)
      (λ told image now. g.met.B.Blocks.images_may c.args.blocks.now image told now);
  faults = refl;
  filled = λ told i less. absurd (omega (arith, less));
}

pub loop-i-preserved : goal.loop-i-preserved
loop-i-preserved g c =
    let part = c.args.layout.now in
    let cur = (g.B.Blocks.seen c.args.blocks.now).cur in
    record {
      keeps = keeps-then g.B.Blocks.tells (g.B.Blocks.seen c.args.blocks.now)
          (g.B.Blocks.seen c.loop-i.blocks) (g.B.Blocks.seen c.rule_at.new.blocks)
          c.loop-i.invariant.keeps c.rule_at.ensures.keeps;
      faults = c.in_ok-rule.ensures.cause.ok ∙ c.loop-i.invariant.faults;
      filled = λ told.
          let found : RuleAt part c.args.area cur c.loop-i.i c.in_ok-rule.field-0 =
          subst (λ (image : Image). RuleAt part c.args.area image c.loop-i.i c.in_ok-rule.field-0)
          (c.loop-i.invariant.keeps.content told) (c.in_ok-rule.ensures.rule told) in
          filled-more part c.args.area cur c.loop-i.i (c.loop-i.invariant.filled told)
          (subst (RuleAt part c.args.area cur c.loop-i.i) c.in-None.is found);
    }

pub returns-in-Some-clause-found : goal.returns-in-Some-clause-found
returns-in-Some-clause-found g c told =
    let part = c.args.layout.now in
    let cur = (g.B.Blocks.seen c.args.blocks.now).cur in
    let n : c.interval_in.result ≡ interval_in part c.args.area c.loop-i.i =
    c.interval_in.ensures.number in
    let found : RuleAt part c.args.area cur c.loop-i.i c.in_ok-rule.field-0 =
    subst (λ (image : Image). RuleAt part c.args.area image c.loop-i.i c.in_ok-rule.field-0)
    (c.loop-i.invariant.keeps.content told) (c.in_ok-rule.ensures.rule told) in
    record {
      interval = c.loop-i.i;
      under = c.loop-i-test.true;
      before = c.loop-i.invariant.filled told;
      block = n;
      rule_is = subst (λ (m : ℕ). IsLeastBroken (FilledBreaks part (block_at cur m)) c.in-Some.rule)
          (sym n) (subst (RuleAt part c.args.area cur c.loop-i.i) c.in-Some.is found);
    }
