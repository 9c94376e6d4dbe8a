use Rattle.std.proofs.Common.{Some, refl, subst, ◌∙◌, arith}
use Rattle.vr_types.specs.Image.{Image}
use Rattle.vr_types.proofs.CallerLemmas.{keeps-none, keeps-then}
use Rattle.vr_attach.specs.Damage.{HoldsNth}
use Rattle.vr_attach.proofs.Walks.{FoundAt, held_more}
use Rattle.vr_attach.proofs.damage.damage_under.Goals as goal

pub loop-i-init : goal.loop-i-init
loop-i-init g c = record {
  keeps = keeps-none g.B.Blocks.tells (g.B.Blocks.seen c.args.blocks.now)
      (λ told image now. g.met.B.Blocks.images_may c.args.blocks.now image told now);
  faults = refl;
  held = λ told i less. absurd (omega (arith, less));
}

pub returns-in-Some-clause-found : goal.returns-in-Some-clause-found
returns-in-Some-clause-found g c told =
    let part = c.args.layout.now in
    let top = c.args.top.now in
    let cur = (g.B.Blocks.seen c.args.blocks.now).cur in
    let found : FoundAt part top c.loop-i.i cur c.in_ok-damage.field-0 =
    subst (λ (image : Image). FoundAt part top c.loop-i.i image c.in_ok-damage.field-0)
    (c.loop-i.invariant.keeps.content told) (c.in_ok-damage.ensures.holds told) in
    let here : FoundAt part top c.loop-i.i cur (Some c.in-Some.damage) =
    subst (FoundAt part top c.loop-i.i cur) c.in-Some.is found in
    here (c.loop-i.invariant.held told)

pub loop-i-preserved : goal.loop-i-preserved
loop-i-preserved g c =
    let part = c.args.layout.now in
    let top = c.args.top.now in
    let cur = (g.B.Blocks.seen c.args.blocks.now).cur in
    record {
      keeps = keeps-then g.B.Blocks.tells (g.B.Blocks.seen c.args.blocks.now)
          (g.B.Blocks.seen c.loop-i.blocks) (g.B.Blocks.seen c.damage_at.new.blocks)
          c.loop-i.invariant.keeps c.damage_at.ensures.keeps;
      faults = c.in_ok-damage.ensures.cause.ok ∙ c.loop-i.invariant.faults;
      held = λ told.
          let found : FoundAt part top c.loop-i.i cur c.in_ok-damage.field-0 =
          subst (λ (image : Image). FoundAt part top c.loop-i.i image c.in_ok-damage.field-0)
          (c.loop-i.invariant.keeps.content told) (c.in_ok-damage.ensures.holds told) in
          let here : HoldsNth part top cur c.loop-i.i =
          subst (FoundAt part top c.loop-i.i cur) c.in-None.is found in
          held_more part top cur c.loop-i.i (c.loop-i.invariant.held told) here;
    }
