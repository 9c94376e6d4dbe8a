use Rattle.std.proofs.Common.{◌<◌, inl, ℕ, List, None, ap, sym, subst, ◌∙◌}
use Rattle.vr_types.specs.Image.{Image, block_at}
use Rattle.vr_space.specs.Rosters.{roster_block}
use Rattle.vr_attach.specs.Chain.{RosterBreaks}
use Rattle.vr_attach.specs.Damage.{IsLeastBroken}
use Rattle.vr_chained.specs.Walked.{IsReadOf}
use Rattle.vr_chained.proofs.Attaching.{FirstBad}
use Rattle.vr_chained.proofs.RosterRules.{good-sound}
use Rattle.vr_chained.proofs.WalkedOn.{under-bad}
use Rattle.vr_chained.proofs.walk.walk_area.Goals as goal

pub returns-in-Err-clause-bad : goal.returns-in-Err-clause-bad
returns-in-Err-clause-bad g c told = inl (record {
  block = c.roster_block-block.ensures.number;
  rule_is = subst (λ (top : List ℕ).
      IsLeastBroken (RosterBreaks c.args.layout.now top) c.in-Err.rule)
      (c.in_ok-read_block.ensures.content told) c.in-Err.ensures.broken;
})

pub returns-in-None-clause-same : goal.returns-in-None-clause-same
returns-in-None-clause-same g c told =
    c.in_ok-read_block.ensures.content told
    ∙ ap (block_at (g.B.Blocks.seen c.args.blocks.now).cur) c.roster_block-block.ensures.number

pub returns-in-Some-clause-bad : goal.returns-in-Some-clause-bad
returns-in-Some-clause-bad g c told =
    let part = c.args.layout.now in
    let cur = (g.B.Blocks.seen c.args.blocks.now).cur in
    let used = c.in-Ok.roster.used in
    let read : IsReadOf part (block_at cur (roster_block part c.args.area)) used
    c.in-Ok.roster.next =
    subst (λ (top : List ℕ). IsReadOf part top used c.in-Ok.roster.next)
    (c.in_ok-read_block.ensures.content told ∙ ap (block_at cur) c.roster_block-block.ensures.number)
    c.in-Ok.ensures.read in
    under-bad part cur c.args.area used c.in-Some.damage.block c.in-Some.damage.rule
    (good-sound part (block_at cur (roster_block part c.args.area)) read.good) read.used_is
    (subst (FirstBad part c.args.area used cur) c.in-Some.is
    (subst (λ (image : Image). FirstBad part c.args.area used image c.in_ok-damage-in-Ok.field-0)
    (c.read_block.ensures.keeps.content told) (c.in_ok-damage-in-Ok.ensures.found told)))

pub returns-in-None-clause-sound : goal.returns-in-None-clause-sound
returns-in-None-clause-sound g c told =
    let part = c.args.layout.now in
    let cur = (g.B.Blocks.seen c.args.blocks.now).cur in
    let used = c.in-Ok.roster.used in
    let read : IsReadOf part (block_at cur (roster_block part c.args.area)) used
    c.in-Ok.roster.next =
    subst (λ (top : List ℕ). IsReadOf part top used c.in-Ok.roster.next)
    (c.in_ok-read_block.ensures.content told ∙ ap (block_at cur) c.roster_block-block.ensures.number)
    c.in-Ok.ensures.read in
    let filled : FirstBad part c.args.area used cur None =
    subst (FirstBad part c.args.area used cur) c.in-None.is
    (subst (λ (image : Image). FirstBad part c.args.area used image c.in_ok-damage-in-Ok.field-0)
    (c.read_block.ensures.keeps.content told) (c.in_ok-damage-in-Ok.ensures.found told)) in
    record {
      roster = good-sound part (block_at cur (roster_block part c.args.area)) read.good;
      intervals = λ interval below.
          filled interval (subst (λ (n : ℕ). interval < n) (sym read.used_is) below);
    }
