use Rattle.std.proofs.Common.{◌≡◌, ap, ◌∙◌, subst}
use Rattle.vr_types.specs.Image.{Block, block_at}
use Rattle.vr_space.specs.Keyed.{Keyed}
use Rattle.vr_split.specs.Halves.{MakesLower}
use Rattle.vr_split.proofs.making.make_lower.Goals as goal

pub returns-clause-made : goal.returns-clause-made
returns-clause-made g c told =
    let head : c.layout.inside.head ≡ c.args.layout.now.head =
    ap (λ (part : Keyed). part.head) c.layout.view_is in
    subst (λ (top : Block). MakesLower c.args.layout.now top c.args.cut.now c.args.block.now
    c.write_lower.new.out)
    (c.in_ok-top.ensures.content told
    ∙ ap (block_at (g.B.Blocks.seen c.args.blocks.now).cur) head) c.write_lower.ensures
