use Rattle.std.proofs.Common.{◌≡◌, ap, subst, ◌∙◌}
use Rattle.vr_types.specs.Image.{Block, Image, block_at}
use Rattle.vr_space.specs.Room.{Range}
use Rattle.vr_space.specs.Keyed.{HoldsRange}
use Rattle.vr_space.specs.UnderWay.{interval_block}
use Rattle.vr_split.specs.Halves.{MakesUpper, IsBusyCopy}
use Rattle.vr_split.proofs.steps.make_copies.Goals as goal

pub returns-clause-upper : goal.returns-clause-upper
returns-clause-upper g c told =
    let part = c.args.layout.now in
    let a = g.B.Blocks.seen c.args.blocks.now in
    let m = g.B.Blocks.seen c.read_block.new.blocks in
    let read : c.read_block.new.out ≡ block_at a.cur (interval_block part c.args.split.now.old) =
    c.in_ok-read_block.ensures.content told ∙ ap (block_at a.cur) c.block_of.ensures in
    subst (λ (image : Image). MakesUpper part (block_at image part.head) c.args.split.now.cut.now
    (block_at a.cur (interval_block part c.args.split.now.old)) c.make_upper.new.out)
    (c.read_block.ensures.keeps.content told)
    (subst (λ (block : Block). MakesUpper part (block_at m.cur part.head) c.args.split.now.cut.now
    block c.make_upper.new.out) read (c.in_ok-make_upper.ensures.made told))

pub returns-clause-whole : goal.returns-clause-whole
returns-clause-whole g c told =
    let part = c.args.layout.now in
    let a = g.B.Blocks.seen c.args.blocks.now in
    let read : c.read_block.new.out ≡ block_at a.cur (interval_block part c.args.split.now.old) =
    c.in_ok-read_block.ensures.content told ∙ ap (block_at a.cur) c.block_of.ensures in
    subst (λ (block : Block). (range : Range) → HoldsRange part range block
    → IsBusyCopy part block c.write_busy.new.out) read (c.write_busy.ensures part)
