use Rattle.std.proofs.Common.{◌≡◌, ap, subst, ◌∙◌}
use Rattle.vr_types.specs.Image.{Block, Image, block_at}
use Rattle.vr_space.specs.UnderWay.{interval_block}
use Rattle.vr_split.specs.Halves.{MakesLower}
use Rattle.vr_split.proofs.steps.make_clean.Goals as goal

pub returns-clause-lower : goal.returns-clause-lower
returns-clause-lower g c told =
    let part = c.args.layout.now in
    let a = g.B.Blocks.seen c.args.blocks.now in
    let m = g.B.Blocks.seen c.read_block.new.blocks in
    let read : c.read_block.new.out ≡ block_at a.cur (interval_block part c.args.split.now.old) =
    c.in_ok-read_block.ensures.content told ∙ ap (block_at a.cur) c.block_of.ensures in
    subst (λ (image : Image). MakesLower part (block_at image part.head) c.args.split.now.cut.now
    (block_at a.cur (interval_block part c.args.split.now.old)) c.make_lower.new.out)
    (c.read_block.ensures.keeps.content told)
    (subst (λ (block : Block). MakesLower part (block_at m.cur part.head) c.args.split.now.cut.now
    block c.make_lower.new.out) read (c.in_ok-make_lower.ensures.made told))
