use Rattle.std.proofs.Common.{ℕ, List, ap, subst, ◌∙◌}
use Rattle.std.specs.Prelude.{MatchOption}
use Rattle.vr_types.specs.Image.{block_at}
use Rattle.vr_space.specs.Numbered.{IsFilled}
use Rattle.vr_attach.specs.Chain.{FilledBreaks}
use Rattle.vr_attach.specs.Damage.{IsLeastBroken}
use Rattle.vr_chained.proofs.walk.rule_at.Goals as goal

pub returns-clause-rule : goal.returns-clause-rule
returns-clause-rule g c told =
    let part = c.args.layout.now in
    let cur = (g.B.Blocks.seen c.args.blocks.now).cur in
    subst (λ (block : List ℕ). MatchOption c.filled_rule.result (IsFilled part block)
    (IsLeastBroken (FilledBreaks part block)))
    (c.in_ok-block.ensures.content told ∙ ap (block_at cur) c.interval_in.ensures.number)
    c.filled_rule.ensures
